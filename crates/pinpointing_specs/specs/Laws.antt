-- What two explored lists are, for a claim that each superset keeps.
use Rattle.std.specs.Prelude.{◌≡◌, ℕ, List, ◌↔◌}
use Rattle.std.specs.List.{Contains}
use Rattle.axiom_sets.specs.NumberSets.{NumberSet}
use Rattle.axiom_sets.specs.Sets.{Limited}
use Rattle.pinpointing_specs.specs.Smallest.{Grows, IsMinimalYes, IsMinimalRemoval, IsHitAlone, IsExplored}

-- the listed sets are exactly the smallest ones
abbrev pub ListedAreMinimalYes : (NumberSet → Type 0) → Type 0
ListedAreMinimalYes holds = (limit : ℕ) (justifications leaves : List Limited) → Grows holds
    → IsExplored holds limit justifications leaves
    → (s : Limited) → s.limit ≡ limit → (Contains justifications s ↔ IsMinimalYes holds s)

-- the leaves in which each member is hit alone are exactly the smallest removals
abbrev pub HitAloneAreMinimalRemovals : (NumberSet → Type 0) → Type 0
HitAloneAreMinimalRemovals holds = (limit : ℕ) (justifications leaves : List Limited) → Grows holds
    → IsExplored holds limit justifications leaves
    → (r : Limited) → r.limit ≡ limit → ((Contains leaves r × IsHitAlone justifications r) ↔ IsMinimalRemoval holds r)
