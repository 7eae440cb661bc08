-- The places of the facts that name an individual.
use Rattle.std.specs.Prelude.{◌≡◌, ℕ, ◌<◌, Bool, true, List, [], length, All, Contains, filter, slice_index_or}
use Rattle.std.specs.List.{range_with_len}
use Rattle.std.specs.List.Sorted.{IsStrictlyIncreasing}
use Rattle.assertion_box.specs.Stated.{Stated, stated_at, names}

-- whether the fact at a place names the individual
abbrev pub is_named_at : ℕ → List Stated → ℕ → Bool
is_named_at a facts p = names a (stated_at facts p).fact

-- those of the first n places, ascending, whose facts name the individual
abbrev pub places_to : ℕ → List Stated → ℕ → List ℕ
places_to a facts n = filter (is_named_at a facts) (range_with_len 0 n)

-- the places of the facts that name an individual
abbrev pub places_of : ℕ → List Stated → List ℕ
places_of a facts = places_to a facts (length facts)

-- the list has exactly the places of the facts that name the individual, ascending
pub record ArePlacesOf (a : ℕ) (facts : List Stated) (places : List ℕ) : Type 0 where
  pub ascending : IsStrictlyIncreasing places
  pub each : All (λ p. (p < length facts) × (is_named_at a facts p ≡ true)) places
  pub every : (p : ℕ) → p < length facts → is_named_at a facts p ≡ true → Contains places p

-- the list under a number; there is none from some number on
abbrev pub list_at : List (List ℕ) → ℕ → List ℕ
list_at lists k = slice_index_or lists k []
