-- The smallest sets of which a claim holds, and the smallest sets whose removal ends it.
use Rattle.std.specs.Prelude.{◌≡◌, ℕ, zero, suc, ◌+◌, true, false, List}
use Rattle.std.specs.FinSet as set
use Rattle.std.specs.List.{Contains}
use Rattle.axiom_sets.specs.NumberSets.{NumberSet, IsPart, DoMeet}
use Rattle.axiom_sets.specs.Sets.{Limited, IsWithin}

-- the set of the numbers from 1 to n
unfoldable pub numbers_to : ℕ → NumberSet
numbers_to zero = set.empty
numbers_to (suc n) = set.insert (numbers_to n) (n + 1)

-- the numbers up to the limit that are not in the set
abbrev pub rest : Limited → NumberSet
rest s = set.difference (numbers_to s.limit) s.members

-- the set without a number
abbrev pub without : Limited → ℕ → Limited
without s k = record { limit = s.limit; members = set.remove s.members k }

-- a superset of a set of which it holds is one
abbrev pub Grows : (NumberSet → Type 0) → Type 0
Grows holds = (s t : NumberSet) → IsPart s t → holds s → holds t

-- it holds of the set, and of no set that lacks one member more
pub record IsMinimalYes (holds : NumberSet → Type 0) (s : Limited) : Type 0 where
  pub within : IsWithin s.limit s.members
  pub yes_set : holds s.members
  pub needed : (k : ℕ) → set.contains s.members k ≡ true → ¬ holds (without s k).members

-- it holds of the rest no more, and does as soon as one member is given back
pub record IsMinimalRemoval (holds : NumberSet → Type 0) (r : Limited) : Type 0 where
  pub within : IsWithin r.limit r.members
  pub ends : ¬ holds (rest r)
  pub needed : (k : ℕ) → set.contains r.members k ≡ true → holds (rest (without r k))

-- for each member some listed set meets r in just that member
abbrev pub IsHitAlone : List Limited → Limited → Type 0
IsHitAlone listed r = (k : ℕ) → set.contains r.members k ≡ true
    → (j : Limited) × Contains listed j × (set.contains j.members k ≡ true)
    × ((m : ℕ) → set.contains r.members m ≡ true → set.contains j.members m ≡ true → m ≡ k)

-- no member of s is one of t
abbrev pub AreApart : NumberSet → NumberSet → Type 0
AreApart s t = (k : ℕ) → set.contains s k ≡ true → set.contains t k ≡ false

-- some listed set is part of t
abbrev pub HasPart : List Limited → NumberSet → Type 0
HasPart listed t = (l : Limited) × Contains listed l × IsPart l.members t

-- each listed set meets t
abbrev pub MeetsEach : List Limited → NumberSet → Type 0
MeetsEach listed t = (j : Limited) → Contains listed j → DoMeet j.members t

-- what a list of sets and a list of leaves are once each set that meets all of the one has a part among the other
pub record IsExplored (holds : NumberSet → Type 0) (limit : ℕ) (justifications leaves : List Limited) : Type 0 where
  pub limits : (j : Limited) → Contains justifications j → j.limit ≡ limit
  pub smallest : (j : Limited) → Contains justifications j → IsMinimalYes holds j
  pub leaf_limits : (l : Limited) → Contains leaves l → l.limit ≡ limit
  pub ends : (l : Limited) → Contains leaves l → IsWithin l.limit l.members × ¬ holds (rest l)
  pub covered : (t : NumberSet) → MeetsEach justifications t → HasPart leaves t
