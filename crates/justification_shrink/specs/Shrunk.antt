-- What came of shrinking a set.
use Rattle.std.specs.Prelude.{◌≡◌, ◌⊎◌, ℕ, true}
use Rattle.std.specs.FinSet as set
use Rattle.lane_sieve.specs.Sets.{IsPart}
use Rattle.axiom_sets.specs.Sets.{Limited}
use Rattle.pinpointing_specs.specs.Smallest.{IsMinimalYes, without}
use Rattle.set_questions.specs.Meaning.{Meaning, ShowsNothing, ShowsAbove}
use Rattle.justification_shrink.specs.declared.Shrunk.{Shrunk}
use Rattle.justification_shrink.specs.declared.Shrunk.TheVariants.{Smallest, Spent}

-- a smallest yes-set inside the start, which is the start or was shown to be a yes-set
abbrev pub ShrinksTo : Meaning → Limited → Shrunk → Type 0
ShrinksTo m start (Smallest j) = (j.limit ≡ start.limit) × IsPart j.members start.members × IsMinimalYes m.holds j
    × ((j.members ≡ start.members) ⊎ m.shown_yes j.members)
ShrinksTo m start Spent = m.left ≡ 0

-- a yes-set of which nothing is remembered that says whether it is one without a number of its own
pub record IsUndecided (m : Meaning) (kept : Limited) : Type 0 where
  pub still : m.holds kept.members
  pub number : ℕ
  pub member : set.contains kept.members number ≡ true
  pub unknown : m.unknown (without kept number).members

-- nothing is lost of what was shown: it has the result as part, or a yes-set inside the start that was not tried to its
-- end
abbrev pub LosesNothing : Meaning → Meaning → Limited → Shrunk → Type 0
LosesNothing m m' start (Smallest j) = ShowsAbove m m' j
LosesNothing m m' start Spent = (kept : Limited) × IsPart kept.members start.members × IsUndecided m' kept
    × ShowsAbove m m' kept

-- no test ended meanwhile because the budget was spent, unless that is what came of it
abbrev pub ShrinksInBudget : Meaning → Meaning → Shrunk → Type 0
ShrinksInBudget m m' (Smallest j) = m'.ran_out ≡ m.ran_out
ShrinksInBudget m m' Spent = Unit {0}

-- what is left of a yes-set that was tried without one of its numbers: the same set, which needs the number if it has
-- it, or a smaller one without it
abbrev pub Tries : Meaning → Limited → ℕ → Shrunk → Type 0
Tries m kept number (Smallest j) =
    (j.limit ≡ kept.limit)
    × (((j.members ≡ kept.members)
    × (set.contains kept.members number ≡ true → ¬ m.holds (without kept number).members))
    ⊎ (IsPart j.members (without kept number).members × m.holds j.members × m.shown_yes j.members))
Tries m kept number Spent = m.left ≡ 0

-- what was shown meanwhile has what is left as part; where the budget was spent, nothing was, and no answer is
-- remembered
abbrev pub TriesAbove : Meaning → Meaning → Limited → ℕ → Shrunk → Type 0
TriesAbove m m' kept number (Smallest j) = ShowsAbove m m' j
TriesAbove m m' kept number Spent = (set.contains kept.members number ≡ true) × m'.unknown (without kept number).members
    × ShowsNothing m m'
