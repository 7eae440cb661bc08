use Rattle.std.proofs.Common.{take}
use Rattle.model_builder.specs.Walks.{is_waiting, HasVisited}
use Rattle.model_builder.proofs.walk.visit.Given as goal

abbrev pub invariant-loop-end : goal.invariant-loop-end
invariant-loop-end l =
    HasVisited l.initial.seen l.seen l.initial.waiting.items l.waiting.items (is_waiting (take l.end-index l.ends))
