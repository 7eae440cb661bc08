-- Which transversals a node of the search is to find, and how.
use Rattle.std.specs.Prelude.{◌≡◌, ◌⊎◌, ◌↔◌, ℕ, ◌<◌, ◌≤◌, true, false, List, length, slice_index_or}
use Rattle.std.specs.FinSet as set
use Rattle.std.specs.List.{Contains}
use Rattle.lane_sieve.specs.Sets.{NumberSet, IsPart, DoMeet}
use Rattle.axiom_sets.specs.Sets.{Limited}
use Rattle.pinpointing_specs.specs.Smallest.{AreApart, IsHitAlone}
use Rattle.audit_check.specs.Transversals.{IsMinimalTransversal}

-- the sets before a place meet the hit set
abbrev pub AreMet : List Limited → Limited → ℕ → Type 0
AreMet sets hit place = (k : ℕ) (d : Limited) → k < place → DoMeet (slice_index_or sets k d).members hit.members

-- the set at the place is none of those that meet the hit set
abbrev pub IsUnmetAt : List Limited → Limited → ℕ → Type 0
IsUnmetAt sets hit place = (place < length sets) × ¬ DoMeet (slice_index_or sets place hit).members hit.members

-- the set with a number more
abbrev pub with_number : Limited → ℕ → Limited
with_number s k = record { limit = s.limit; members = set.insert s.members k }

-- a smallest transversal that contains the hit set, and has no barred number
pub record InTerritory (sets : List Limited) (hit barred x : Limited) : Type 0 where
  pub limit : x.limit ≡ hit.limit
  pub minimal : IsMinimalTransversal sets x
  pub has : IsPart hit.members x.members
  pub free : AreApart barred.members x.members

-- the list `new` has no other sets than the list `old` and the territory
abbrev pub ComesFrom : List Limited → Limited → Limited → List Limited → List Limited → Type 0
ComesFrom sets hit barred old new = (x : Limited) → Contains new x → Contains old x ⊎ InTerritory sets hit barred x

-- the list `new` has the sets of the list `old`, and those of the territory
abbrev pub GrowsBy : List Limited → Limited → Limited → List Limited → List Limited → Type 0
GrowsBy sets hit barred old new = (x : Limited) → Contains new x ↔ (Contains old x ⊎ InTerritory sets hit barred x)

-- some set without k meets the hit set in u alone
abbrev pub IsFree : List Limited → Limited → ℕ → ℕ → Type 0
IsFree sets hit u k = (j : Limited) × Contains sets j × (set.contains j.members u ≡ true)
    × ((m : ℕ) → set.contains hit.members m ≡ true → set.contains j.members m ≡ true → m ≡ u)
    × (set.contains j.members k ≡ false)

-- the numbers up to the limit, without the barred ones, with which each member is still hit alone
abbrev pub AreCandidates : List Limited → Limited → Limited → NumberSet → Type 0
AreCandidates sets hit barred candidates = (k : ℕ)
    → (set.contains candidates k ≡ true)
    ↔ ((1 ≤ k) × (k ≤ hit.limit) × (set.contains barred.members k ≡ false)
    × ((u : ℕ) → set.contains hit.members u ≡ true → IsFree sets hit u k))

-- the numbers of the set that is not met, without the barred ones, with which each member is hit alone
abbrev pub AreChoices : List Limited → Limited → Limited → Limited → NumberSet → Type 0
AreChoices sets unmet hit barred fitting = (k : ℕ)
    → (set.contains fitting k ≡ true)
    ↔ ((set.contains unmet.members k ≡ true) × (set.contains barred.members k ≡ false)
    × IsHitAlone sets (with_number hit k))

-- what is left of a set of numbers: those of it that are still free
abbrev pub LeavesFree : List Limited → Limited → ℕ → NumberSet → NumberSet → Type 0
LeavesFree sets hit u old new = (k : ℕ)
    → (set.contains new k ≡ true) ↔ ((set.contains old k ≡ true) × IsFree sets hit u k)

-- j has u, and none of the others
abbrev pub HasAlone : Limited → NumberSet → ℕ → Type 0
HasAlone j others u = (set.contains j.members u ≡ true) × ¬ DoMeet j.members others

-- of the numbers those that each of the sets has that hits u alone
abbrev pub AreShared : List Limited → NumberSet → ℕ → NumberSet → NumberSet → Type 0
AreShared sets others u fitting blocked = (k : ℕ)
    → (set.contains blocked k ≡ true)
    ↔ ((set.contains fitting k ≡ true)
    × ((j : Limited) → Contains sets j → HasAlone j others u → set.contains j.members k ≡ true))

-- those numbers are kept that are in j, should j have u alone
abbrev pub KeepsShared : Limited → NumberSet → ℕ → NumberSet → NumberSet → Type 0
KeepsShared j others u old new = (k : ℕ)
    → (set.contains new k ≡ true)
    ↔ ((set.contains old k ≡ true) × (HasAlone j others u → set.contains j.members k ≡ true))

-- what is left of a set of numbers: those that are in the other one too
abbrev pub KeepsCommon : NumberSet → NumberSet → NumberSet → Type 0
KeepsCommon other old new = (k : ℕ)
    → (set.contains new k ≡ true) ↔ ((set.contains old k ≡ true) × (set.contains other k ≡ true))
