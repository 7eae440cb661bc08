-- Numbers below a size are gone through in ascending order, and those at which a test fails are passed over.
use Rattle.std.specs.Prelude.{◌≡◌, ℕ, ◌<◌, ◌≤◌, Bool, false, nat_lt, if◌then◌else◌, Option, Some, None}

-- the test fails at each number from the one on and before the other
pub record FailsBetween (from to : ℕ) (p : ℕ → Bool) : Type 0 where
  pub fails : (k : ℕ) → from ≤ k → k < to → p k ≡ false

-- the number is the first that is left where each before it is passed over
pub record IsNextAt (size from : ℕ) (p : ℕ → Bool) (x : ℕ) : Type 0 where
  pub reached : from ≤ x
  pub below : x < size
  pub passed_over : FailsBetween from x p

-- the first number from the one on that is not passed over; none where the test fails at all that are left
abbrev pub IsNext : ℕ → ℕ → (ℕ → Bool) → Option ℕ → Type 0
IsNext size from p None = FailsBetween from size p
IsNext size from p (Some x) = IsNextAt size from p x

-- the number, where it is below the size
abbrev pub within : ℕ → ℕ → Option ℕ
within size x = if nat_lt x size then Some x else None

-- the lesser of two that may be there
abbrev pub least : Option ℕ → Option ℕ → Option ℕ
least (Some x) (Some y) = Some (if nat_lt x y then x else y)
least (Some x) None = Some x
least None y = y
