use Rattle.std.proofs.Common.{take}
use Rattle.model_builder.specs.Gains.{HasPlaces}
use Rattle.model_builder.proofs.places.put_places.Given as goal

abbrev pub invariant-loop-individual : goal.invariant-loop-individual
invariant-loop-individual l = HasPlaces l.initial.model l.model (take l.individual l.places)
