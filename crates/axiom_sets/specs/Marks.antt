-- Sets of marks.
use Rattle.std.specs.Prelude.{◌≡◌, ℕ, ◌<◌, ◌==◌, ◌||◌, Bool, true, false, List, [], Option, Some, None}
use Rattle.std.specs.List.{list_any}
use Rattle.std.specs.FinSet as set
use Rattle.lane_sieve.specs.Sets.{NumberSet}

-- the marks that may be there, and none where they are not
abbrev pub marks_or_none : {V : Type 0} → (V → List ℕ) → Option V → List ℕ
marks_or_none items None = []
marks_or_none items (Some v) = items v

-- the set of the marks of a list
abbrev pub marks_set : List ℕ → NumberSet
marks_set marks = set.from_list marks

-- whether the mark is in the list
abbrev pub is_mark : List ℕ → ℕ → Bool
is_mark marks mark = list_any (λ m. m == mark) marks

-- `all` has the marks of both lists
abbrev pub AreUnited : List ℕ → List ℕ → List ℕ → Type 0
AreUnited marks others all = (k : ℕ) → is_mark all k ≡ (is_mark marks k || is_mark others k)

-- k is the greatest member
pub record IsGreatest (s : NumberSet) (k : ℕ) : Type 0 where
  pub member : set.contains s k ≡ true
  pub bound : (j : ℕ) → k < j → set.contains s j ≡ false
