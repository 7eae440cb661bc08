-- Sets of different limits.
use Rattle.std.specs.Prelude.{◌≡◌, ℕ, ◌<◌, true}
use Rattle.std.specs.FinSet as set
use Rattle.lane_sieve.specs.Sets.{NumberSet}

-- some number of the set is above the limit
abbrev pub HasAbove : NumberSet → ℕ → Type 0
HasAbove s limit = (k : ℕ) × (limit < k) × (set.contains s k ≡ true)
