use Rattle.std.proofs.Common.{◌+◌, true}
use Rattle.subsumption.proofs.Members.{HoldsBelow}
use Rattle.realizer.proofs.typing.full_row.Given as goal

abbrev pub invariant-loop-class : goal.invariant-loop-class
invariant-loop-class l = HoldsBelow l.class (λ x. true) (l.classes + 2) l.row
