-- Ascending lists of numbers.
use Rattle.std.proofs.Common.{◌≡◌, ℕ, ◌≤◌, true, List, [], ◌∷◌, length, refl, arith}
use Rattle.calculus_specs.specs.Rows.{is_ascending}

-- a list of one number at most is ascending
pub short_ascends : (ns : List ℕ) → length ns ≤ 1 → is_ascending ns ≡ true
short_ascends [] short = refl
short_ascends (n ∷ []) short = refl
short_ascends (n ∷ m ∷ ms) short = absurd (omega arith)
