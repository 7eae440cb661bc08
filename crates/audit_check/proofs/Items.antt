-- Items of lists, and their places.
use Rattle.std.proofs.Common.{◌≡◌, ℕ, zero, suc, ◌<◌, List, [], ◌∷◌, length, map, Some, refl, ◌∙◌, subst, arith}
use Rattle.std.specs.Prelude.{slice_get}
use Rattle.std.specs.List.{All, Contains}
use Rattle.std.proofs.lemmas.Option.{slice_get-get_or, get_or_from_slice_get, slice_get_within}

-- what a list of values has is the value of an item
pub from_map : {A B : Type 0} (f : A → B) (xs : List A) (y : B) → Contains (map f xs) y
    → (x : A) × Contains xs x × (f x ≡ y)
from_map f [] y (i, lt, e) = absurd (omega (arith, lt))
from_map f (x ∷ xs) y (zero, lt, e) = (x, (0, omega arith, refl), e)
from_map f (x ∷ xs) y (suc i, lt, e) =
    let r = from_map f xs y (i, omega (arith, lt), e) in (r.0, (suc r.1.0, omega (arith, r.1.1), r.1.2), r.2)

-- what all items have, an item has
pub all_has : {A : Type 0} (P : A → Type 0) (xs : List A) (x : A) → All P xs → Contains xs x → P x
all_has P xs x all at = subst P at.2 (all at.0 x at.1)

-- an item stands at a place
pub at_place : {A : Type 0} (xs : List A) (x : A) → Contains xs x
    → (k : ℕ) × (k < length xs) × (slice_get xs k ≡ Some x)
at_place xs x at = (at.0, at.1, slice_get-get_or xs at.0 x at.1 ∙ (λ i. Some (at.2 i)))

-- and what stands at a place is one
pub of_place : {A : Type 0} (xs : List A) (k : ℕ) (x : A) → slice_get xs k ≡ Some x → Contains xs x
of_place xs k x is = (k, slice_get_within xs k x is, get_or_from_slice_get xs k x x is)
