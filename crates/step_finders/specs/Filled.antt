-- The successors that an 'at most' counts, as a list in any order.
use Rattle.std.specs.Prelude.{◌≡◌, ℕ, ◌==◌, ◌&&◌, ◌<◌, ◌≤◌, nat_le, Bool, true, false, List, Contains, Option, Some}
use Rattle.std.specs.Prelude.{None, filter, length, get_or, slice_index}
use Rattle.std.specs.List.{list_any, IsDistinct}
use Rattle.calculus_specs.specs.declared.facts.Fact.{Fact}
use Rattle.calculus_specs.specs.State.{has, is_successor, are_apart}
use Rattle.tableau_specs.specs.Clash.{filled_successors}

-- the list has each successor of x by a role below s that has e, once
pub record AreFilled (below : ℕ → ℕ → Bool) (fs : List (Fact ℕ)) (x s e : ℕ) (ys : List ℕ) : Type 0 where
  pub distinct : IsDistinct (λ y z. y == z) ys
  pub members : (y : ℕ) → list_any (λ z. y == z) ys ≡ (is_successor fs (λ r. below r s) x y && has fs y e)

-- two different nodes of the list are not apart
pub record AreUnapart (fs : List (Fact ℕ)) (ys : List ℕ) (y z : ℕ) : Type 0 where
  pub has_one : Contains ys y
  pub has_other : Contains ys z
  pub differ : ¬ (y ≡ z)
  pub unapart : are_apart fs y z ≡ false

-- z stands behind a place of the list, and the node at the place is not apart from it
pub record IsLater (fs : List (Fact ℕ)) (ys : List ℕ) (place z : ℕ) : Type 0 where
  pub later : ℕ
  pub behind : place < later
  pub within : later < length ys
  pub stands : get_or ys later z ≡ z
  pub unapart : are_apart fs (slice_index ys place) z ≡ false

-- those from a number on of the representatives that an 'at most' counts, ascending
unfoldable pub filled_from : ℕ → (ℕ → ℕ → Bool) → List (Fact ℕ) → ℕ → ℕ → ℕ → ℕ → List ℕ
filled_from first below fs x s e from = filter (nat_le from) (filled_successors first below fs x s e)

-- this is the least number that passes, or there is none
abbrev pub IsLeast : (ℕ → Bool) → Option ℕ → Type 0
IsLeast p None = (z : ℕ) → p z ≡ false
IsLeast p (Some y) = (p y ≡ true) × ((z : ℕ) → p z ≡ true → y ≤ z)
