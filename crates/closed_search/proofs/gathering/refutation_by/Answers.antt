use Rattle.std.proofs.Common.{◌≡◌, true, ◌<◌, ◌^◌, List, map, ap, subst, arith}
use Rattle.axiom_sets.specs.Sets.{Limited, IsWithin}
use Rattle.std.specs.List.{list_all}
use Rattle.search_trace.specs.ReadBack.{is_small}
use Rattle.calculus_specs.specs.Line.{Line}
use Rattle.search_trace.specs.RuleLine.{line_of}
use Rattle.closed_search.proofs.Refuted.{names_listed, writable}
use Rattle.closed_search.proofs.gathering.refutation_by.Goals as goal

pub returns-clause-listed : goal.returns-clause-listed
returns-clause-listed c =
    names_listed c.args.ontology.now c.args.named c.args.concepts.now (map line_of c.args.lines.items)
    c.in_ok-refutation.refutation c.in_ok-refutation.ensures c.requires.listed c.len.ensures.table
    c.shape_count.ensures.kept

pub returns-clause-writable : goal.returns-clause-writable
returns-clause-writable c =
    let r = c.in_ok-refutation.refutation in
    let same = c.axioms_used.ensures in
    let within = subst (λ (s : Limited). IsWithin s.limit s.members) same c.limit.ensures.within in
    let few : r.axioms.limit < 2 ^ 32 =
    omega (arith, c.limit.type_inv, c.limit.ensures.limit, ap (λ (s : Limited). s.limit) same) in
    let small : list_all is_small r.lines ≡ true =
    subst (λ (ls : List Line). list_all is_small ls ≡ true) c.lines.ensures.lines c.show_small.ensures in
    writable c.args.ontology.now c.args.named c.args.concepts.now (map line_of c.args.lines.items) r
    c.in_ok-refutation.ensures c.requires.listed c.len.ensures.table c.shape_count.ensures.kept c.requires.limit within
    few small
