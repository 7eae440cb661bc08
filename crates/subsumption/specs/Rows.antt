-- What contracts see of a relation on the classes of an ontology, and how it changes.
use Rattle.std.specs.Prelude.{◌≡◌, ℕ, ◌+◌, ◌<◌, ◌≤◌, ◌==◌, ◌&&◌, ◌||◌, Bool, true, refl}
use Rattle.std.specs.Coded.{Coded, code_by, coded×, coded_ℕ}
use Rattle.subsumption.specs.Matrices.{Matrix, matrix_code, has}

-- Of so many classes. The numbers below the count are these classes, the count is owl:Thing, and the number behind it
-- is owl:Nothing.
pub record Rows : Type 0 where
  pub count : ℕ
  pub above : Matrix

-- relations on the classes of an ontology can be coded, and read back
abbrev pub rows_code : Coded Rows
rows_code =
    code_by (ℕ × Matrix) (coded× coded_ℕ matrix_code) (λ r. (r.count, r.above))
    (λ p. record { count = p.0; above = p.1 }) (λ _. refl)

-- whether x is related to y
abbrev pub holds : Rows → ℕ → ℕ → Bool
holds r x y = has r.above x y

-- not too many classes, and the one relation is the other the other way round
pub record AreConverse (count : ℕ) (above below : Matrix) : Type 0 where
  pub small : count ≤ 20000
  pub above_size : above.size ≡ count + 2
  pub below_size : below.size ≡ count + 2
  pub converse : (x y : ℕ) → x < count + 2 → y < count + 2 → has below y x ≡ has above x y

-- each number is related to itself and to the greatest, and the least to each
abbrev pub is_bounded : ℕ → ℕ → ℕ → ℕ → Bool
is_bounded greatest least x y = x == y || y == greatest || x == least

-- as before any question: each class is included in itself and in owl:Thing, and owl:Nothing in each
pub record IsAtFirst (count : ℕ) (r : Rows) : Type 0 where
  pub count_is : r.count ≡ count
  pub pairs : (x y : ℕ) → x < count + 2 → y < count + 2 → holds r x y ≡ is_bounded count (count + 1) x y

-- what is related to x is related to what y is related to, too
pub record Relates (x y : ℕ) (old new : Rows) : Type 0 where
  pub count_is : new.count ≡ old.count
  pub pairs : (a b : ℕ) → a < old.count + 2 → b < old.count + 2
      → holds new a b ≡ (holds old a b || (holds old a x && holds old y b))

-- reflexive and transitive, on the numbers below a size
pub record IsOrder (size : ℕ) (test : ℕ → ℕ → Bool) : Type 0 where
  pub reflexive : (x : ℕ) → x < size → test x x ≡ true
  pub transitive : (x y z : ℕ) → x < size → y < size → z < size → test x y ≡ true → test y z ≡ true → test x z ≡ true
