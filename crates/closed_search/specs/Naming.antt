-- The concepts of a table that are named so far.
use Rattle.std.specs.Prelude.{◌≡◌, ℕ, ◌+◌, ◌<◌, Bool, true, List, [], ◌∷◌, ◌++◌, map, length, get_or, All}
use Rattle.std.specs.List.{list_all}
use Rattle.calculus_specs.specs.Shape.{Shape, shape_of}
use Rattle.calculus_specs.specs.Shape.Shape.{top}
use Rattle.calculus_specs.specs.Tree.{tree_of}
use Rattle.search_trace.specs.Shapes.{part_numbers, AreShapes}
use Rattle.closed_search.specs.Numbers.{is_used, are_used, number_in, renumbered_shape}
use Rattle.closed_search.specs.declared.numbering.Naming.{Naming}

-- a kind of concepts that has the parts of each of its own
abbrev pub HasParts : List Shape → (ℕ → Bool) → Type 0
HasParts table p = (c : ℕ) → c < length table → p c ≡ true → list_all p (part_numbers (shape_of table c)) ≡ true

-- each concept that is named is one of the table, and the refutation's shape of its number stands for the same concept
pub record IsNaming (table : List Shape) (n : Naming) : Type 0 where
  pub same_length : length n.refutation.shapes ≡ length n.used.keys
  pub listed : All (λ c. c < length table) n.used.keys
  pub reads : (k : ℕ) → k < length n.used.keys
      → tree_of (top ∷ n.refutation.shapes) (k + 1) ≡ tree_of table (get_or n.used.keys k 0)
  pub are_shapes : AreShapes n.refutation.shapes
  pub no_lines : n.refutation.lines ≡ []

-- concepts below a bound alone come to be named, behind those that are
pub record Grows (old new : Naming) (bound : ℕ) : Type 0 where
  pub more : List ℕ
  pub are : new.used.keys ≡ old.used.keys ++ more
  pub below : All (λ c. c < bound) more
  pub axioms : new.refutation.axioms ≡ old.refutation.axioms

-- what comes to be named is part of what is asked for: of each kind that has the parts of its own
abbrev pub KeepsKinds : List Shape → Naming → Naming → List ℕ → Type 0
KeepsKinds table old new asked = (p : ℕ → Bool) → HasParts table p → list_all p asked ≡ true
    → list_all p old.used.keys ≡ true → list_all p new.used.keys ≡ true

-- the concept has the number
pub record IsNumberOf (n : Naming) (c number : ℕ) : Type 0 where
  pub used : is_used n.used.keys c ≡ true
  pub is : number ≡ number_in n.used.keys c

-- the concept gets the next number, and this shape
pub record IsPut (old new : Naming) (c : ℕ) (s : Shape) (number : ℕ) : Type 0 where
  pub used : new.used.keys ≡ old.used.keys ++ c ∷ []
  pub refutation : new.refutation ≡ record old.refutation { shapes = old.refutation.shapes ++ s ∷ [] }
  pub is : number ≡ length old.refutation.shapes + 1

-- ---- what naming answers

-- a concept has got its number, and its parts too
pub record IsNamed (table : List Shape) (old new : Naming) (c number : ℕ) : Type 0 where
  pub naming : IsNaming table new
  pub grown : Grows old new (c + 1)
  pub kinds : KeepsKinds table old new (c ∷ [])
  pub number' : IsNumberOf new c number

-- the parts of a shape have got their numbers, and the shape is written by them
pub record IsRenamed (table : List Shape) (old new : Naming) (bound : ℕ) (form s : Shape) : Type 0 where
  pub naming : IsNaming table new
  pub grown : Grows old new bound
  pub kinds : KeepsKinds table old new (part_numbers form)
  pub parts : are_used new.used.keys (part_numbers form) ≡ true
  pub is : s ≡ renumbered_shape (number_in new.used.keys) form

-- some concepts have got their numbers
pub record AreRenamed (table : List Shape) (old new : Naming) (bound : ℕ) (parts numbers : List ℕ) : Type 0 where
  pub naming : IsNaming table new
  pub grown : Grows old new bound
  pub kinds : KeepsKinds table old new parts
  pub used : are_used new.used.keys parts ≡ true
  pub are : numbers ≡ map (number_in new.used.keys) parts
