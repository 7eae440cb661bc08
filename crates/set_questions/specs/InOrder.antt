-- Places in lists that are in the order of sets.
use Rattle.std.specs.Prelude.{◌≡◌, ◌⊎◌, ◌↔◌, ℕ, ◌<◌, ◌≤◌, List, length, slice_index_or}
use Rattle.std.specs.List.{Contains}
use Rattle.std.specs.declared.cmp.Ordering.TheVariants.{Less, Greater}
use Rattle.pinpointing_specs.specs.Sets.{Limited, list_cmp}
use Rattle.pinpointing_specs.specs.Order.{IsAscending}

-- all of the sets have the same limit
abbrev pub HaveOneLimit : List Limited → Type 0
HaveOneLimit sets = (s t : Limited) → Contains sets s → Contains sets t → s.limit ≡ t.limit

-- the sets before `low` come before s, and those from `high` on after it
pub record IsBetween (sets : List Limited) (s : Limited) (low high : ℕ) : Type 0 where
  pub ordered : low ≤ high
  pub within : high ≤ length sets
  pub before : (k : ℕ) (d : Limited) → k < low → list_cmp (slice_index_or sets k d) s ≡ Less
  pub after : (k : ℕ) (d : Limited) → high ≤ k → k < length sets → list_cmp (slice_index_or sets k d) s ≡ Greater

-- the list `more` has the sets of the list, and s
abbrev pub HasMore : List Limited → Limited → List Limited → Type 0
HasMore sets s more = (x : Limited) → Contains more x ↔ (Contains sets x ⊎ (x ≡ s))

-- the list `ordered` has the sets of the list, each once and in their order
pub record AreInOrder (sets ordered : List Limited) : Type 0 where
  pub order : IsAscending ordered
  pub same : (s : Limited) → Contains ordered s ↔ Contains sets s
