use Rattle.std.proofs.Common.{◌≡◌, ℕ, ◌≤◌, true}
use Rattle.std.specs.FinSet as set
use Rattle.edit_session.proofs.inclusion.is_part.Given as goal

abbrev pub invariant-loop-below : goal.invariant-loop-below
invariant-loop-below l = (k : ℕ) → 1 ≤ k → k ≤ l.below → set.contains l.part.members k ≡ true
    → set.contains l.whole.members k ≡ true
