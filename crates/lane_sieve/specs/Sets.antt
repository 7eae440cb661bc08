-- What set of numbers a list of words of 64 bits stands for.
use Rattle.std.specs.Prelude.{◌≡◌, ℕ, zero, suc, ◌+◌, ◌*◌, ◌/◌, ◌%◌, ◌==◌, ◌<◌, ◌≤◌, Bool, true, false, List, [], ◌∷◌}
use Rattle.std.specs.Prelude.{length, slice_index, if◌then◌else◌}
use Rattle.std.specs.Int.{bit_at}
use Rattle.std.specs.Ordering.{nat_cmp, MatchOrdering}
use Rattle.std.specs.Cmp.Lexicographic.{slice_cmp}
use Rattle.std.specs.declared.cmp.Ordering.{Ordering}
use Rattle.std.specs.FinSet as set

-- a finite set of numbers
abbrev pub NumberSet : Type 0
NumberSet = set.FinSet nat_cmp

-- bit k of the words: bit k % 64 of word k / 64, where no bit is set after the last word
unfoldable pub has_bit : List ℕ → ℕ → Bool
has_bit words k = bit_at (slice_index words (k / 64)) (k % 64) == 1

-- those of the numbers first, first + 1, .. (count of them) that pass a test, in ascending order
unfoldable pub passing : (ℕ → Bool) → ℕ → ℕ → List ℕ
passing test first zero = []
passing test first (suc count) =
    if test first then first ∷ passing test (first + 1) count else passing test (first + 1) count

-- the set of the numbers whose bits are set
unfoldable pub number_set : List ℕ → NumberSet
number_set words = set.from_list (passing (has_bit words) 0 (64 * length words))

-- the members below a bound, in ascending order
abbrev pub members_below : NumberSet → ℕ → List ℕ
members_below s bound = passing (set.contains s) 0 bound

-- each member of s is a member of t
abbrev pub IsPart : NumberSet → NumberSet → Type 0
IsPart s t = (k : ℕ) → set.contains s k ≡ true → set.contains t k ≡ true

-- some number is a member of both
abbrev pub DoMeet : NumberSet → NumberSet → Type 0
DoMeet s t = (k : ℕ) × (set.contains s k ≡ true) × (set.contains t k ≡ true)

-- the order of the sets of two lists of words: the lexicographic order of their ascending lists, in which a proper
-- prefix comes first
abbrev pub words_cmp : List ℕ → List ℕ → Ordering
words_cmp xs ys =
    slice_cmp nat_cmp (members_below (number_set xs) (64 * length xs)) (members_below (number_set ys) (64 * length ys))

-- no number from the given one on is a member
abbrev pub LacksFrom : NumberSet → ℕ → Type 0
LacksFrom s from = (k : ℕ) → from ≤ k → set.contains s k ≡ false

-- no number from the first one on and below the second is a member
abbrev pub LacksBetween : NumberSet → ℕ → ℕ → Type 0
LacksBetween s from to = (k : ℕ) → from ≤ k → k < to → set.contains s k ≡ false

-- no member is greater than the number
abbrev pub LacksGreater : NumberSet → ℕ → Type 0
LacksGreater s n = (k : ℕ) → n < k → set.contains s k ≡ false

-- some member below the bound is greater than the number
abbrev pub HasGreater : NumberSet → ℕ → ℕ → Type 0
HasGreater s bound n = (k : ℕ) × (n < k) × (k < bound) × (set.contains s k ≡ true)

-- where one of two sets alone has the number, below which both are the same: the order by which it comes first exactly
-- where it goes on
abbrev pub GoesOnAsOrdered : NumberSet → ℕ → ℕ → Ordering → Type 0
GoesOnAsOrdered s bound n order = MatchOrdering order (HasGreater s bound n) ⊥ (LacksGreater s n)
