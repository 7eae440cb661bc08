-- Lists of names in which no name stands twice.
use Rattle.std.specs.Prelude.{◌≡◌, ℕ, ◌<◌, List, length, slice_get}

-- where the names at two places are the same, so are the places
pub record AreDistinct (names : List (List ℕ)) : Type 0 where
  pub same_place : (i j : ℕ) → i < length names → j < length names → slice_get names i ≡ slice_get names j → i ≡ j
