-- What an answer about a set says.
use Rattle.std.specs.Prelude.{◌≡◌, ◌-◌, ◌++◌, ◌∷◌, [], Bool, true, false}
use Rattle.pinpointing_specs.specs.Sets.{Limited}
use Rattle.lane_sieve.specs.Sets.{IsPart}
use Rattle.set_questions.specs.Meaning.{Meaning, ShowsNothing, ShowsAbove}
use Rattle.set_questions.specs.declared.entail.Reply.{Reply}
use Rattle.set_questions.specs.declared.entail.Reply.TheVariants.{Yes, No, Spent}

-- an answer about the asked set, where `m` is what the object means afterwards
abbrev pub Answers : Meaning → Limited → Reply → Type 0
Answers m asked (Yes part) = (part.limit ≡ asked.limit) × IsPart part.members asked.members × m.holds part.members
    × m.shown_yes part.members
Answers m asked No = (¬ m.holds asked.members) × m.shown_no asked.members
Answers m asked Spent = m.left ≡ 0

-- that the budget is spent is answered only where no other answer is remembered
abbrev pub IsUnknownIf : Meaning → Limited → Reply → Type 0
IsUnknownIf m asked (Yes part) = Unit {0}
IsUnknownIf m asked No = Unit {0}
IsUnknownIf m asked Spent = m.unknown asked.members

-- of no set was it shown just now that it is a yes-set, but of those with the set as part that the answer names
abbrev pub ShowsNoOther : Meaning → Meaning → Reply → Type 0
ShowsNoOther m m' (Yes part) = ShowsAbove m m' part
ShowsNoOther m m' No = ShowsNothing m m'
ShowsNoOther m m' Spent = ShowsNothing m m'

-- no test ended just now because the budget was spent, unless that is the answer
abbrev pub AsksInBudget : Meaning → Meaning → Reply → Type 0
AsksInBudget m m' (Yes part) = m'.ran_out ≡ m.ran_out
AsksInBudget m m' No = m'.ran_out ≡ m.ran_out
AsksInBudget m m' Spent = Unit {0}

-- a node was taken, or nothing was left
abbrev pub Takes : Meaning → Meaning → Limited → Bool → Type 0
Takes m m' node true = ¬ (m.left ≡ 0) × (m'.left ≡ m.left - 1) × (m'.taken ≡ m.taken ++ node ∷ [])
Takes m m' node false = (m.left ≡ 0) × (m'.taken ≡ m.taken)

-- where something was left, one unit of it was taken, and the set is a yes-set or not; where nothing was left, there is
-- no answer, and nothing was taken
abbrev pub Spends : Meaning → Meaning → Reply → Type 0
Spends m m' (Yes part) = ¬ (m.left ≡ 0) × (m'.left ≡ m.left - 1)
Spends m m' No = ¬ (m.left ≡ 0) × (m'.left ≡ m.left - 1)
Spends m m' Spent = (m.left ≡ 0) × (m'.left ≡ m.left)
