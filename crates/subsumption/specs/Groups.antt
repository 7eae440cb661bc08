-- Groups of equal classes by a relation `is included in` on some listed classes, owl:Thing and owl:Nothing. The classes
-- have the numbers below their count, owl:Thing has the count as its number, and owl:Nothing the next one.
use Rattle.std.specs.Prelude.{ℕ, ◌+◌, ◌==◌, Bool, not, ◌&&◌}
use Rattle.shq_meaning.specs.Below.{all_below}

-- which number is included in which
abbrev pub Parthood : Type 0
Parthood = ℕ → ℕ → Bool

-- ---- classes

-- the class is included in owl:Nothing
abbrev pub is_empty : ℕ → Parthood → ℕ → Bool
is_empty count r x = r x (count + 1)

-- owl:Thing is included in the class
abbrev pub holds_all : ℕ → Parthood → ℕ → Bool
holds_all count r x = r count x

-- neither is so
abbrev pub is_between : ℕ → Parthood → ℕ → Bool
is_between count r x = not (is_empty count r x) && not (holds_all count r x)

-- ---- groups of equal classes, by their first class

-- y is one of the classes of the group of x: each of the two is included in the other one
abbrev pub is_equal : ℕ → Parthood → ℕ → ℕ → Bool
is_equal count r x y = is_between count r y && (r x y && r y x)

-- x is the first class of a group
abbrev pub is_first : ℕ → Parthood → ℕ → Bool
is_first count r x = is_between count r x && all_below x (λ y. not (is_equal count r x y))

-- ---- the lowest of some first classes

-- of the classes that pass a test, no other one is included in p
abbrev pub holds_no_other : ℕ → Parthood → (ℕ → Bool) → ℕ → Bool
holds_no_other count r test p = all_below count (λ q. not (test q && (not (q == p) && r q p)))

-- p is one of them of which this is so
abbrev pub is_lowest : ℕ → Parthood → (ℕ → Bool) → ℕ → Bool
is_lowest count r test p = test p && holds_no_other count r test p
