use Rattle.std.proofs.Common.{◌≡◌, drop}
use Rattle.shq_meaning.specs.Truth.{are_different}
use Rattle.finite_model.specs.ModelLists.{meaning}
use Rattle.finite_model.proofs.interp.Interp.are_different.Given as goal

abbrev pub invariant-loop-index : goal.invariant-loop-index
invariant-loop-index l =
    are_different (meaning l.self) l.individuals ≡ are_different (meaning l.self) (drop l.index l.individuals)
