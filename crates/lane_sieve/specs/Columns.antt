-- Columns that a table keeps beside its rows.
use Rattle.std.specs.Prelude.{ℕ, ◌≡◌, List, [], ◌∷◌}

-- the numbers are the first words of the rows, each of which has one
abbrev pub AreFirsts : List ℕ → List (List ℕ) → Type 0
AreFirsts [] [] = Unit {0}
AreFirsts (x ∷ xs) ((y ∷ ys) ∷ rows) = (x ≡ y) × AreFirsts xs rows
AreFirsts xs rows = ⊥
