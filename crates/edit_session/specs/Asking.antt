-- How a query is answered: by an entry of the log, else by a test.
use Rattle.std.specs.Prelude.{◌≡◌, ◌⊎◌, ℕ, true, false, List, ◌++◌, Option, Some, None, Contains}
use Rattle.lane_sieve.specs.Sets.{IsPart}
use Rattle.axiom_sets.specs.Sets.{Limited}
use Rattle.shq_terms.specs.Listed.{Listed}
use Rattle.shq_terms.specs.declared.axioms.Query.{Query}
use Rattle.shq_oracle.specs.Entry.{Entry}
use Rattle.shq_oracle.specs.Entry.TheVariants.{Test}
use Rattle.shq_oracle.specs.TestEnd.{TestEnd}
use Rattle.shq_oracle.specs.TestEnd.TheVariants as E
use Rattle.shq_oracle.specs.Entries.{spent_of, IsAnswered}
use Rattle.shq_oracle.specs.declared.answer.Outcome.{Outcome}
use Rattle.shq_oracle.specs.declared.answer.Outcome.TheVariants.{Yes, No, Undecided}
use Rattle.edit_session.specs.SessionLog.{Tests}

-- an entry of the log tells that the query follows from these axioms of the set, or that it does not follow from the
-- set
abbrev pub IsTold : List Entry → Limited → Query → Outcome → Type 0
IsTold log s q (Yes u) = (t : Limited) × (steps : ℕ) × Contains log (Test t q steps (E.Yes u))
    × IsPart u.members s.members
IsTold log s q No = (t : Limited) × (steps : ℕ) × Contains log (Test t q steps E.No) × IsPart s.members t.members
IsTold log s q Undecided = ⊥

-- what the log tells already, or that it tells nothing
abbrev pub IsRecalled : List Entry → Limited → Query → Option Outcome → Type 0
IsRecalled log s q (Some v) = IsTold log s q v
IsRecalled log s q None = ¬ IsAnswered log s q

-- the log gained one test at most
abbrev pub TestsAtMostOnce : Listed → Limited → Query → List Entry → List Entry → Type 0
TestsAtMostOnce o s q before after = (after ≡ before) ⊎ Tests false o s q before after

-- the log tells the outcome, which gained one test at most; or a test ran out, by which the whole budget is spent
abbrev pub AnswersOnce : Listed → Limited → Query → ℕ → List Entry → List Entry → Outcome → Type 0
AnswersOnce o s q budget before after (Yes u) = TestsAtMostOnce o s q before after × IsTold after s q (Yes u)
AnswersOnce o s q budget before after No = TestsAtMostOnce o s q before after × IsTold after s q No
AnswersOnce o s q budget before after Undecided = Tests true o s q before after × (spent_of after ≡ budget)

-- what the end of a test tells
abbrev pub outcome_of : TestEnd → Outcome
outcome_of (E.Yes u) = Yes u
outcome_of E.No = No
outcome_of (E.Spent t) = Undecided

-- the log is as before, with perhaps some entries more
abbrev pub GrowsLog : List Entry → List Entry → Type 0
GrowsLog before after = (more : List Entry) × (after ≡ before ++ more)
