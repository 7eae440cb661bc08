use Rattle.std.proofs.Common.{ℕ, ◌<◌, get_or}
use Rattle.step_finders.specs.declared.state.PlainRow.{PlainRow}
use Rattle.step_finders.specs.Found.{PlainHolds}
use Rattle.step_finders.proofs.rows.find_plain.Given as goal

abbrev pub invariant-loop-row : goal.invariant-loop-row
invariant-loop-row g l = (k : ℕ) (d : PlainRow) → k < l.row-index
    → PlainHolds (g.S.State.facts l.state) l.node (get_or l.rows k d)
