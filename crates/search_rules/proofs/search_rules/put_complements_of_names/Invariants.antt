use Rattle.calculus_specs.specs.Shape.{IsTable}
use Rattle.ontology_limits.specs.Numbers.{Extends}
use Rattle.search_rules.proofs.search_rules.put_complements_of_names.Given as goal

abbrev pub invariant-loop-number : goal.invariant-loop-number
invariant-loop-number l = record {
  kept : Extends l.fn.concepts l.concepts;
  table : IsTable l.concepts;
}
