-- The shape of a concept that a table keeps: its parts are numbers of the table, and so is the last number of a shape
-- with a role. In 'at least' and 'at most' the first number is the cardinality and the second the role.
use Rattle.std.specs.Prelude.{◌≡◌, ℕ, ◌<◌, nat_lt, nat_le, ◌&&◌, Bool, true, false, List, length, slice_index_or}
use Rattle.std.specs.List.{list_all}

-- a concept as a table keeps it
pub data Shape : Type 0 where
  top : Shape
  bottom : Shape
  name : ℕ → Shape
  not_name : ℕ → Shape
  intersection : List ℕ → Shape
  union : List ℕ → Shape
  some_of : ℕ → ℕ → Shape
  all_of : ℕ → ℕ → Shape
  at_least : ℕ → ℕ → ℕ → Shape
  at_most : ℕ → ℕ → ℕ → Shape

-- the shape of a number; one that the table does not have reads as top
abbrev pub shape_of : List Shape → ℕ → Shape
shape_of table c = slice_index_or table c top

-- whether each part of a shape has a number below a bound
abbrev pub has_parts_below : ℕ → Shape → Bool
has_parts_below n top = true
has_parts_below n bottom = true
has_parts_below n (name a) = true
has_parts_below n (not_name a) = true
has_parts_below n (intersection cs) = list_all (λ c. nat_lt c n) cs
has_parts_below n (union cs) = list_all (λ c. nat_lt c n) cs
has_parts_below n (some_of r c) = nat_lt c n
has_parts_below n (all_of r c) = nat_lt c n
has_parts_below n (at_least m r c) = nat_lt c n
has_parts_below n (at_most m r c) = nat_lt c n

-- whether a shape may be a part of an intersection in normal form
abbrev pub is_conjunct : Shape → Bool
is_conjunct top = false
is_conjunct bottom = false
is_conjunct (intersection cs) = false
is_conjunct _ = true

-- and of a union
abbrev pub is_disjunct : Shape → Bool
is_disjunct top = false
is_disjunct bottom = false
is_disjunct (union cs) = false
is_disjunct _ = true

-- whether the shape, whose parts are in the table, is that of a normal form
abbrev pub is_normal : List Shape → Shape → Bool
is_normal table top = true
is_normal table bottom = true
is_normal table (name a) = true
is_normal table (not_name a) = true
is_normal table (intersection cs) = nat_le 2 (length cs) && list_all (λ c. is_conjunct (shape_of table c)) cs
is_normal table (union cs) = nat_le 2 (length cs) && list_all (λ c. is_disjunct (shape_of table c)) cs
is_normal table (some_of r c) = true
is_normal table (all_of r c) = true
is_normal table (at_least n r c) = nat_le 2 n && nat_le n 101
is_normal table (at_most n r c) = nat_le 1 n && nat_le n 100

-- a table of concepts in normal form: number 0 is top, parts stand below the shapes that name them, and no shape stands
-- twice
pub record IsTable (table : List Shape) : Type 0 where
  pub has_top : 0 < length table
  pub begins_with_top : shape_of table 0 ≡ top
  pub parts_below : (c : ℕ) → c < length table → has_parts_below c (shape_of table c) ≡ true
  pub are_normal : (c : ℕ) → c < length table → is_normal table (shape_of table c) ≡ true
  pub are_distinct : (c d : ℕ) → c < length table → d < length table → shape_of table c ≡ shape_of table d → c ≡ d
