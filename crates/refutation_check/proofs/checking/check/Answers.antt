use Rattle.std.proofs.Common.{ℕ, map, length, subst}
use Rattle.axiom_sets.specs.NumberSets.{IsPart}
use Rattle.axiom_sets.specs.Sets.{Limited, IsWithin}
use Rattle.refutation_rules.specs.RuleLine.{line_of}
use Rattle.refutation_check.proofs.Judged.{judged_ok}
use Rattle.refutation_check.proofs.checking.check.Goals as goal

pub new-requires-clause-numbers : goal.new-requires-clause-numbers
new-requires-clause-numbers c =
    let r = c.args.refutation.now in
    let set = c.args.set.now in
    let named : IsPart r.axioms.members set.members =
    subst (λ (s : Limited). IsPart s.members set.members) c.axioms_used.ensures
    (c.are_in.ensures.0 c.if-not-are_in.false) in
    let within : IsWithin (length c.args.ontology.now.axioms) set.members =
    subst (λ (n : ℕ). IsWithin n set.members) c.requires.set c.limit-limit.ensures.within in
    λ k member. within k (named k member)

pub new-requires-clause-within : goal.new-requires-clause-within
new-requires-clause-within c = c.requires.checkable.axioms

pub returns : goal.returns
returns c =
    let r = c.args.refutation.now in
    let set = c.args.set.now in
    let f = c.in_ok-rules.rules in
    let are = c.in_ok-rules.ensures in
    let part = c.are_in.ensures.0 c.if-not-are_in.false in
    let named : IsPart r.axioms.members set.members =
    subst (λ (s : Limited). IsPart s.members set.members) c.axioms_used.ensures part in
    judged_ok c.args.ontology.now set c.args.query.now r named f (map line_of c.lines.result.now) c.read.result
    (record {
      individuals_are = are.individuals;
      axioms_are = are.axioms;
      named_are = are.named;
      query_is = are.query;
      shapes_are = are.shapes;
    })
    c.lines.ensures.lines c.read.ensures
