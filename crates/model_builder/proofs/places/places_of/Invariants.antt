use Rattle.blocking.specs.Trail.{facts_in}
use Rattle.model_builder.specs.Collected.{ArePlaces}
use Rattle.model_builder.proofs.places.places_of.Given as goal

abbrev pub invariant-loop-individual : goal.invariant-loop-individual
invariant-loop-individual g l = ArePlaces l.tree.first (facts_in l.tree.entries) l.individual l.places.items
