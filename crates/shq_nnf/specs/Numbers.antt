-- What the numbers of a table stand for, and how a table grows.
use Rattle.std.specs.Prelude.{◌≡◌, ℕ, ◌<◌, nat_lt, Bool, ◌⊎◌, true, List, [], ◌∷◌, ◌++◌, length, map, take}
use Rattle.std.specs.List.{list_all}
use Rattle.shq_meaning.specs.Concept.{Concept}
use Rattle.calculus_specs.specs.Shape.{Shape, shape_of}
use Rattle.calculus_specs.specs.Tree.{tree_of}

-- the later table begins with the earlier one, so that each number keeps its shape
abbrev pub Extends : List Shape → List Shape → Type 0
Extends earlier later = take (length earlier) later ≡ earlier

-- the shape has this number in the later table: the table is as before, or the shape is its new last one
pub record IsPut (earlier : List Shape) (s : Shape) (later : List Shape) (number : ℕ) : Type 0 where
  pub listed : number < length later
  pub has_shape : shape_of later number ≡ s
  pub grown : (later ≡ earlier) ⊎ (later ≡ earlier ++ s ∷ [])

-- the number of the table stands for the concept
pub record IsNumber (table : List Shape) (number : ℕ) (concept : Concept) : Type 0 where
  pub listed : number < length table
  pub stands_for : tree_of table number ≡ concept

-- the number is one of the table, and where it is used stands for the concept
pub record IsNumberIf (used : Bool) (table : List Shape) (number : ℕ) (concept : Concept) : Type 0 where
  pub listed : number < length table
  pub stands_for : used ≡ true → tree_of table number ≡ concept

-- what the numbers of a table stand for
abbrev pub trees_at : List Shape → List ℕ → List Concept
trees_at table numbers = map (tree_of table) numbers

-- the numbers of the table stand for the concepts, in order
pub record AreNumbers (table : List Shape) (numbers : List ℕ) (concepts : List Concept) : Type 0 where
  pub listed : list_all (λ n. nat_lt n (length table)) numbers ≡ true
  pub stand_for : trees_at table numbers ≡ concepts
