use Rattle.std.proofs.Common.{◌≡◌, ℕ, ◌<◌, ◌≤◌, false}
use Rattle.std.specs.FinSet as set
use Rattle.edit_session.proofs.inclusion.has_above.Given as goal

abbrev pub invariant-loop-top : goal.invariant-loop-top
invariant-loop-top l = (l.top ≤ l.set.limit) × ((k : ℕ) → l.top < k → set.contains l.set.members k ≡ false)

abbrev pub decreases-loop-top : goal.decreases-loop-top
decreases-loop-top l = l.top
