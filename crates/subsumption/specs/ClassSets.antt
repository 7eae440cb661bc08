-- Sets of classes, in which the class x has the number x + 1.
use Rattle.std.specs.Prelude.{◌≡◌, ℕ, ◌+◌, ◌<◌, ◌≤◌, Bool, false, List}
use Rattle.std.specs.FinSet as set
use Rattle.lane_sieve.specs.Sets.{passing}
use Rattle.axiom_sets.specs.Sets.{Limited}

-- the class is a member
abbrev pub has_class : Limited → ℕ → Bool
has_class s x = set.contains s.members (x + 1)

-- the classes that are members, ascending
abbrev pub class_list : Limited → List ℕ
class_list s = passing (has_class s) 0 s.limit

-- of the numbers up to that of owl:Nothing, the set has those of the classes below the count that pass a test
pub record HoldsClasses (count : ℕ) (test : ℕ → Bool) (s : Limited) : Type 0 where
  pub limit : s.limit ≡ count + 2
  pub inside : (x : ℕ) → x < count → has_class s x ≡ test x
  pub outside : (x : ℕ) → count ≤ x → has_class s x ≡ false
