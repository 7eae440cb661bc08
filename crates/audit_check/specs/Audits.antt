-- What two lists are that were looked at without a search.
use Rattle.std.specs.Prelude.{◌≡◌, ◌↔◌, ℕ, List}
use Rattle.std.specs.List.{Contains}
use Rattle.lane_sieve.specs.Sets.{NumberSet, IsPart}
use Rattle.axiom_sets.specs.Sets.{Limited, IsWithin}
use Rattle.pinpointing_specs.specs.Smallest.{rest, Grows, IsMinimalYes, IsMinimalRemoval}
use Rattle.audit_check.specs.Transversals.{AreTransversals}

-- no listed set is part of another one
abbrev pub IsAntichain : List Limited → Type 0
IsAntichain sets = (s t : Limited) → Contains sets s → Contains sets t → IsPart s.members t.members → s ≡ t

-- yes-sets of which none contains another, and their smallest transversals, each of whose rests is no yes-set
pub record IsAudited (holds : NumberSet → Type 0) (limit : ℕ) (justifications repairs : List Limited) : Type 0 where
  pub limits : (j : Limited) → Contains justifications j → j.limit ≡ limit
  pub within : (j : Limited) → Contains justifications j → IsWithin j.limit j.members
  pub antichain : IsAntichain justifications
  pub yes_sets : (j : Limited) → Contains justifications j → holds j.members
  pub transversals : AreTransversals limit justifications repairs
  pub ends : (r : Limited) → Contains repairs r → ¬ holds (rest r)

-- the one list has exactly the smallest yes-sets
abbrev pub AuditedAreMinimalYes : (NumberSet → Type 0) → Type 0
AuditedAreMinimalYes holds = (limit : ℕ) (justifications repairs : List Limited) → Grows holds
    → IsAudited holds limit justifications repairs
    → (s : Limited) → s.limit ≡ limit → (Contains justifications s ↔ IsMinimalYes holds s)

-- the other one has exactly the smallest sets whose removal leaves no yes-set
abbrev pub AuditedAreMinimalRemovals : (NumberSet → Type 0) → Type 0
AuditedAreMinimalRemovals holds = (limit : ℕ) (justifications repairs : List Limited) → Grows holds
    → IsAudited holds limit justifications repairs
    → (r : Limited) → r.limit ≡ limit → (Contains repairs r ↔ IsMinimalRemoval holds r)
