-- Lists of sets in the order of sets.
use Rattle.std.specs.Prelude.{◌≡◌, ℕ, ◌<◌, List, length, slice_index_or}
use Rattle.std.specs.declared.cmp.Ordering.TheVariants.{Less}
use Rattle.axiom_sets.specs.Sets.{Limited, list_cmp}

-- each set comes before those after it, so that it stands there once
abbrev pub IsAscending : List Limited → Type 0
IsAscending sets = (i j : ℕ) (d : Limited) → i < j → j < length sets
    → list_cmp (slice_index_or sets i d) (slice_index_or sets j d) ≡ Less
