use Rattle.std.proofs.Common.{◌+◌, length}
use Rattle.model_builder.specs.Walks.{unseen}
use Rattle.model_builder.proofs.Walked.{IsWalk}
use Rattle.model_builder.proofs.walk.walk.Given as goal

abbrev pub invariant-loop-x : goal.invariant-loop-x
invariant-loop-x l = IsWalk l.next l.from l.seen l.waiting.items

abbrev pub decreases-loop-x : goal.decreases-loop-x
decreases-loop-x l = unseen l.seen + length l.waiting.items
