use Rattle.std.proofs.Common.{◌<◌, length, arith}
use Rattle.model_builder.proofs.Ends.{none_put}
use Rattle.model_builder.proofs.chains.put_reached_from.Goals as goal

pub returns-then-is_empty : goal.returns-then-is_empty
returns-then-is_empty c =
    let within : c.args.from < length c.args.next.now = omega arith in
    none_put _ _ _ _ _ _ _ _ c.if-is_empty.true (rw c.items.ensures at c.is_empty.ensures) within c.index-next-from.is
