-- Members that are hit alone, and the leaves in which each member is.
use Rattle.std.specs.Prelude.{◌≡◌, ◌⊎◌, ◌↔◌, ℕ, true, List}
use Rattle.std.specs.FinSet as set
use Rattle.std.specs.List.{Contains}
use Rattle.lane_sieve.specs.Sets.{NumberSet, DoMeet}
use Rattle.axiom_sets.specs.Sets.{Limited}
use Rattle.pinpointing_specs.specs.Smallest.{IsHitAlone, IsMinimalRemoval}
use Rattle.hitting_set_tree.specs.Meaning.{Meaning}
use Rattle.hitting_set_tree.specs.declared.tree.Found.{Found}
use Rattle.hitting_set_tree.specs.Found.{IsFound}

-- the list has just the leaves in which each member is hit alone
abbrev pub AreRepairs : List Limited → List Limited → List Limited → Type 0
AreRepairs justifications leaves list = (r : Limited)
    → Contains list r ↔ (Contains leaves r × IsHitAlone justifications r)

-- the repairs of finished lists are exactly the smallest sets whose removal leaves no yes-set
abbrev pub FinishedRepairsAreAll : Meaning → Type 0
FinishedRepairsAreAll m = (f : Found) (list : List Limited) → IsFound m f → f.finished ≡ true
    → AreRepairs f.justifications.items f.leaves.items list
    → (r : Limited) → r.limit ≡ m.size → (Contains list r ↔ IsMinimalRemoval m.holds r)

-- some listed set has k, and no other member of s
abbrev pub HitsAlone : List Limited → Limited → ℕ → Type 0
HitsAlone listed s k = (j : Limited) × Contains listed j × (set.contains j.members k ≡ true)
    × ((m : ℕ) → set.contains s.members m ≡ true → set.contains j.members m ≡ true → m ≡ k)

-- if k is a member, it is hit alone
abbrev pub NeedsAlone : List Limited → Limited → ℕ → Type 0
NeedsAlone listed s k = set.contains s.members k ≡ true → HitsAlone listed s k

-- j has k, and none of the others
abbrev pub HasAlone : Limited → NumberSet → ℕ → Type 0
HasAlone j others k = (set.contains j.members k ≡ true) × ¬ DoMeet j.members others

-- some listed set has k, and none of the others
abbrev pub HitsBeside : List Limited → NumberSet → ℕ → Type 0
HitsBeside listed others k = (j : Limited) × Contains listed j × HasAlone j others k

-- the list `more` has the sets of the list, and the leaf where each of its members is hit alone
abbrev pub IsRepairAdded : List Limited → List Limited → Limited → List Limited → Type 0
IsRepairAdded listed list leaf more = (x : Limited)
    → Contains more x ↔ (Contains list x ⊎ ((x ≡ leaf) × IsHitAlone listed leaf))
