use Rattle.std.proofs.Common.{◌+◌, ◌&&◌}
use Rattle.std.specs.FinSet as set
use Rattle.subsumption.proofs.United.{IsGrown, row_has}
use Rattle.subsumption.proofs.matrix.unite_rows_where.Given as goal

abbrev pub invariant-loop-place : goal.invariant-loop-place
invariant-loop-place l =
    IsGrown l.added.limit l.place (λ x y. row_has l.fn.rows x l.column && set.contains l.added.members (y + 1))
    l.fn.rows l.rows
