-- What an object that answers questions about sets means, and what its calls leave as it is.
use Rattle.std.specs.Prelude.{◌≡◌, ◌⊎◌, ℕ, ◌+◌, ◌-◌, ◌^◌, ◌≤◌, ◌↔◌, Bool, List, min}
use Rattle.lane_sieve.specs.Sets.{NumberSet, IsPart}
use Rattle.pinpointing_specs.specs.Sets.{Limited}

-- what an object that answers questions about sets means
pub record Meaning : Type 1 where
  -- the greatest number
  pub size : ℕ
  -- the yes-sets
  pub holds : NumberSet → Type 0
  -- the budget that is left
  pub left : ℕ
  -- how many asks were answered
  pub asks : ℕ
  -- the sets that were taken as nodes
  pub taken : List Limited
  -- the sets that were shown to be yes-sets, and those that were shown to be none
  pub shown_yes : NumberSet → Type 0
  pub shown_no : NumberSet → Type 0
  -- the sets about which no answer is remembered
  pub unknown : NumberSet → Type 0
  -- whether some test ended because the budget was spent
  pub ran_out : Bool

-- what every call keeps: the yes-sets and the greatest number stay, the budget never rises, what was shown stays shown
pub record Keeps (m m' : Meaning) : Type 0 where
  pub same_size : m'.size ≡ m.size
  pub same_question : (s : NumberSet) → m.holds s ↔ m'.holds s
  pub left_falls : m'.left ≤ m.left
  pub keeps_yes : (s : NumberSet) → m.shown_yes s → m'.shown_yes s
  pub keeps_no : (s : NumberSet) → m.shown_no s → m'.shown_no s

-- of no set was it shown meanwhile that it is a yes-set
abbrev pub ShowsNothing : Meaning → Meaning → Type 0
ShowsNothing m m' = (s : NumberSet) → m'.shown_yes s → m.shown_yes s

-- of no set without this one as part was it shown meanwhile that it is a yes-set
abbrev pub ShowsAbove : Meaning → Meaning → Limited → Type 0
ShowsAbove m m' part = (s : NumberSet) → m'.shown_yes s → m.shown_yes s ⊎ IsPart part.members s

-- a count that is one higher, or stands at its greatest value
abbrev pub one_more : ℕ → ℕ
one_more n = min (n + 1) (2 ^ 64 - 1)
