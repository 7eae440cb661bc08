-- Sets of axiom numbers.
use Rattle.std.specs.Prelude.{◌≡◌, ℕ, ◌+◌, ◌/◌, ◌^◌, ◌<◌, ◌≤◌, ◌&&◌, nat_le, true, List, length, refl}
use Rattle.std.specs.FinSet as set
use Rattle.std.specs.Coded.{Coded, code_by, coded×, coded_ℕ}
use Rattle.std.specs.Ordering.{nat_cmp}
use Rattle.std.specs.Cmp.Lexicographic.{slice_cmp}
use Rattle.std.specs.declared.cmp.Ordering.{Ordering}
use Rattle.lane_sieve.specs.Sets.{NumberSet, number_set, members_below}

-- a set of numbers beside the greatest number that may be in it
pub record Limited : Type 0 where
  pub limit : ℕ
  pub members : NumberSet

-- sets with a limit can be coded, and read back
abbrev pub limited_code : Coded Limited
limited_code =
    code_by (ℕ × NumberSet) (coded× coded_ℕ (set.code coded_ℕ)) (λ s. (s.limit, s.members))
    (λ p. record { limit = p.0; members = p.1 }) (λ _. refl)

-- the members are the numbers from 1 to the limit
abbrev pub IsFull : ℕ → NumberSet → Type 0
IsFull limit members = (k : ℕ) → set.contains members k ≡ (nat_le 1 k && nat_le k limit)

-- each member is a number from 1 to the limit
abbrev pub IsWithin : ℕ → NumberSet → Type 0
IsWithin limit members = (k : ℕ) → set.contains members k ≡ true → (1 ≤ k) × (k ≤ limit)

-- the members in ascending order
abbrev pub member_list : Limited → List ℕ
member_list s = members_below s.members (s.limit + 1)

-- the order of sets: the lexicographic order of their ascending lists, in which a proper prefix comes first
abbrev pub list_cmp : Limited → Limited → Ordering
list_cmp s t = slice_cmp nat_cmp (member_list s) (member_list t)

-- what a set keeps: words with a bit for each number from 0 to the limit, of which only those of numbers from 1 to the
-- limit are set
pub record IsKept (limit : ℕ) (words : List ℕ) : Type 0 where
  pub small : limit < 2 ^ 32
  pub long : length words ≡ limit / 64 + 1
  pub within : IsWithin limit (number_set words)
