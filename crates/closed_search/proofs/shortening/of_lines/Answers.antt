use Rattle.std.proofs.Common.{List, map, subst}
use Rattle.search_trace.specs.Line.{Line as Kept}
use Rattle.search_trace.specs.RuleLine.{line_of}
use Rattle.closed_search.specs.Named.{NamesAxioms}
use Rattle.closed_search.proofs.Among.{numbered_by_own}
use Rattle.closed_search.proofs.Refuted.{fewer_named, no_others_numbered, named_are_part}
use Rattle.closed_search.proofs.shortening.of_lines.Goals as goal

pub returns-clause-over : goal.returns-clause-over
returns-clause-over c =
    let axioms = c.args.ontology.now.axioms in
    let s = c.args.set.now in
    let lines = map line_of c.args.lines.items in
    let r = c.in_ok-refutation.refutation in
    let named = c.take_all.new.self in
    let names =
    subst (λ (ls : List Kept). NamesAxioms axioms s (map line_of ls) c.in_ok-named.named) c.deref-2.ensures.value
    c.in_ok-named.ensures in
    let fewer =
    fewer_named axioms s lines c.in_ok-named.named c.in_ok-idle.idle named names c.take_all.ensures.limit
    c.take_all.ensures.members in
    let others =
    no_others_numbered axioms s named c.args.concepts.now lines r fewer c.in_ok-refutation.ensures.numbered in
    record {
      axioms = others;
      part = named_are_part axioms s r.lines r.axioms others;
      writable = c.in_ok-refutation.ensures.writable c.requires.nodes;
    }

pub returns-clause-numbered : goal.returns-clause-numbered
returns-clause-numbered c =
    numbered_by_own c.args.concepts.now c.take_all.new.self (map line_of c.args.lines.items)
    c.in_ok-refutation.refutation c.in_ok-refutation.ensures.numbered
