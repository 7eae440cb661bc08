use Rattle.ontology_limits.specs.Numbers.{Extends}
use Rattle.search_rules.specs.GivenFacts.{AreNumberedTo}
use Rattle.search_rules.proofs.given_facts.numbered.Given as goal

abbrev pub invariant-loop-place : goal.invariant-loop-place
invariant-loop-place l = record {
  kept : Extends l.fn.concepts l.concepts;
  are : AreNumberedTo l.concepts l.stated l.given.items l.place;
}
