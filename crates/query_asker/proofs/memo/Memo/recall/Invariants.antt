use Rattle.std.proofs.Common.{◌≡◌}
use Rattle.query_asker.specs.Memory.{IsMemo}
use Rattle.query_asker.proofs.memo.Memo.recall.Given as goal

abbrev pub invariant-loop-place : goal.invariant-loop-place
invariant-loop-place l = record { memo : IsMemo l.self l.log; at : l.self.seen ≡ l._place }
