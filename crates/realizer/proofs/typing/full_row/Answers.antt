use Rattle.std.proofs.Common.{◌+◌, true}
use Rattle.subsumption.proofs.Members.{holds_none}
use Rattle.realizer.proofs.typing.full_row.Goals as goal

pub loop-class-init : goal.loop-class-init
loop-class-init c =
    holds_none (λ x. true) (c.args.classes + 2) c.in_ok-row.row c.in_ok-row.ensures.limit c.in_ok-row.ensures.members
