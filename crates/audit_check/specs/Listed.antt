-- A set of a list that contains another one.
use Rattle.std.specs.Prelude.{◌≡◌, ℕ, ◌<◌, List, length, slice_index_or}
use Rattle.lane_sieve.specs.Sets.{IsPart}
use Rattle.axiom_sets.specs.Sets.{Limited}
use Rattle.audit_check.specs.Audits.{IsAntichain}

-- the set at the place contains the one at another place
abbrev pub ContainsAt : List Limited → ℕ → ℕ → Type 0
ContainsAt sets place j = (¬ (j ≡ place))
    × ((d : Limited) → IsPart (slice_index_or sets j d).members (slice_index_or sets place d).members)

-- it contains one at some other place
abbrev pub ContainsAnother : List Limited → ℕ → Type 0
ContainsAnother sets place = (j : ℕ) × (j < length sets) × ContainsAt sets place j

-- where no set contains one at another place, none contains another one
abbrev pub NoneContainsAnother : Type 0
NoneContainsAnother = (sets : List Limited) → ((place : ℕ) → place < length sets → ¬ ContainsAnother sets place)
    → IsAntichain sets
