-- Relations on the numbers below a size, as one set of numbers for each.
use Rattle.std.specs.Prelude.{◌≡◌, ℕ, ◌+◌, ◌^◌, ◌<◌, ◌&&◌, ◌||◌, Bool, true, List, length, slice_index_or, refl}
use Rattle.std.specs.FinSet as set
use Rattle.std.specs.Coded.{Coded, code_by, coded×, coded_ℕ, coded_list}
use Rattle.axiom_sets.specs.Sets.{Limited, limited_code}

-- row x has the number y + 1 where x is related to y
pub record Matrix : Type 0 where
  pub size : ℕ
  pub rows : List Limited

-- relations can be coded, and read back
abbrev pub matrix_code : Coded Matrix
matrix_code =
    code_by (ℕ × List Limited) (coded× coded_ℕ (coded_list limited_code)) (λ m. (m.size, m.rows))
    (λ p. record { size = p.0; rows = p.1 }) (λ _. refl)

-- the row that stands where there is none
abbrev pub no_row : Limited
no_row = record { limit = 0; members = set.empty }

-- the set of numbers to which a number is related
abbrev pub row_in : List Limited → ℕ → Limited
row_in rows x = slice_index_or rows x no_row

-- whether x is related to y
abbrev pub has : Matrix → ℕ → ℕ → Bool
has m x y = set.contains (row_in m.rows x).members (y + 1)

-- whether the one set has x, and the other y
abbrev pub both_have : Limited → Limited → ℕ → ℕ → Bool
both_have chosen added x y = set.contains chosen.members (x + 1) && set.contains added.members (y + 1)

-- whether row x has the number of a column, and the set has y
abbrev pub has_column : List Limited → ℕ → Limited → ℕ → ℕ → Bool
has_column rows column added x y =
    set.contains (row_in rows x).members (column + 1) && set.contains added.members (y + 1)

-- the rows get those numbers more of which a test says so
abbrev pub Gains : ℕ → (ℕ → ℕ → Bool) → List Limited → List Limited → Type 0
Gains size test old new =
    (x y : ℕ) → x < size
    → set.contains (row_in new x).members (y + 1) ≡ (set.contains (row_in old x).members (y + 1) || test x y)

-- there are as many rows as the size, and each has room for as many numbers
pub record IsSquare (size : ℕ) (rows : List Limited) : Type 0 where
  pub small : size < 2 ^ 32
  pub long : length rows ≡ size
  pub wide : (x : ℕ) → x < size → (row_in rows x).limit ≡ size

-- and each number that is in a row is in the set of columns
pub record IsCovered (size : ℕ) (rows : List Limited) (columns : Limited) : Type 0 where
  pub square : IsSquare size rows
  pub limit : columns.limit ≡ size
  pub covers : (x y : ℕ) → x < size → y < size → set.contains (row_in rows x).members (y + 1) ≡ true
      → set.contains columns.members (y + 1) ≡ true

-- whether numbers are related is as a test says
pub record IsMatrix (size : ℕ) (test : ℕ → ℕ → Bool) (m : Matrix) : Type 0 where
  pub size_is : m.size ≡ size
  pub pairs : (x y : ℕ) → x < size → y < size → has m x y ≡ test x y

-- those numbers more are related of which a test says so
abbrev pub Adds : (ℕ → ℕ → Bool) → Matrix → Matrix → Type 0
Adds test old new = IsMatrix old.size (λ x y. has old x y || test x y) new
