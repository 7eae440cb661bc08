-- What is printed of a list of sets, and how the run ends.
use Rattle.std.specs.Prelude.{◌≡◌, ℕ, Bool, true, false, List, ◌++◌, codes}
use Rattle.axiom_sets.specs.Sets.{Limited}
use Rattle.shq_terms.specs.Listed.{Listed}
use Rattle.shq_terms.specs.declared.axioms.Query.{Query as Asked}
use Rattle.pinpointing_jobs.specs.SetLists.{sets_text}
use Rattle.query_asker.specs.Entry.{Entry}
use Rattle.query_asker.specs.Entries.{spent_of}
use Rattle.query_asker.specs.HonestLog.{IsPinpointingLog}
use Rattle.job_inputs.specs.Answer.{line}
use Rattle.job_inputs.specs.declared.status.Status.{Status}
use Rattle.job_inputs.specs.declared.status.Status.TheVariants.{Done, Undecided}
use Rattle.pinpointing_jobs.specs.declared.wanted.Wanted.{Wanted}
use Rattle.pinpointing_jobs.specs.declared.wanted.Wanted.TheVariants.{Justifications, Repairs}
use Rattle.pinpointing_jobs.specs.Wanted.{HasAll, ShowsAll, HasSome}

-- the heading of a list of all sets, and of one of some
abbrev pub heading : Wanted → Bool → List ℕ
heading Justifications true = codes "justifications"
heading Justifications false = codes "partial justifications"
heading Repairs true = codes "repairs"
heading Repairs false = codes "partial repairs"

-- where the search did not finish, the last line says so
abbrev pub last_line : Bool → List ℕ
last_line true = codes ""
last_line false = line (codes "undecided")

-- the text of a list of sets: a heading, the sets with their axioms, and where it is partial a last line
abbrev pub listing_text : Listed → Wanted → Bool → List Limited → List ℕ
listing_text o w finished sets = sets_text o (heading w finished) sets ++ last_line finished

-- the status of a search that finished, or did not
abbrev pub end_status : Bool → Status
end_status true = Done
end_status false = Undecided

-- what is true of a list and its log: the list is whole where the search finished, and else the budget is spent
abbrev pub IsListing : Wanted → Listed → Asked → ℕ → List Entry → List Limited → Bool → Type 0
IsListing w o q budget log sets true = HasAll w o q sets × ShowsAll o q log
IsListing w o q budget log sets false = HasSome w o q log sets × (spent_of log ≡ budget)

-- a query was searched: this list was found, and this text says so
pub record IsListAnswer (w : Wanted) (o : Listed) (q : Asked) (budget : ℕ) (log : List Entry) (s : Status)
    (out : List ℕ) : Type 0 where
  pub sets : List Limited
  pub finished : Bool
  pub text : out ≡ listing_text o w finished sets
  pub status : s ≡ end_status finished
  pub honest : IsPinpointingLog o q budget log
  pub listing : IsListing w o q budget log sets finished
