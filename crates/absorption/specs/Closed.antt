-- Tables of concepts that have what a search can need.
use Rattle.std.specs.Prelude.{◌≡◌, ℕ, Bool, true, List}
use Rattle.calculus_specs.specs.Shape.{Shape, shape_of}
use Rattle.calculus_specs.specs.Shape.Shape.{all_of, at_most}
use Rattle.calculus_specs.specs.Tree.{IsComplement}

-- with an 'at most' the table has the complement of its filler, and with an 'all' the same over each transitive role
-- below
pub record IsClosed (below : ℕ → ℕ → Bool) (is_transitive : ℕ → Bool) (table : List Shape) : Type 0 where
  pub complements : (c n s e : ℕ) → shape_of table c ≡ at_most n s e → (d : ℕ) × IsComplement table e d
  pub carried : (c s e t : ℕ) → shape_of table c ≡ all_of s e → is_transitive t ≡ true → below t s ≡ true
      → (d : ℕ) × (shape_of table d ≡ all_of t e)
