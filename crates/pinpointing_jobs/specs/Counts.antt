-- What is printed of the numbers of sets.
use Rattle.std.specs.Prelude.{◌≡◌, ℕ, Bool, true, false, List, ◌++◌, length, codes}
use Rattle.std.specs.List.{Contains}
use Rattle.axiom_sets.specs.Sets.{Limited}
use Rattle.shq_terms.specs.Listed.{Listed}
use Rattle.shq_terms.specs.declared.axioms.Query.{Query as Asked}
use Rattle.pinpointing_jobs.specs.SetLists.{heading_line}
use Rattle.query_asker.specs.Entry.{Entry}
use Rattle.query_asker.specs.Entries.{spent_of}
use Rattle.query_asker.specs.HonestLog.{IsJustificationSet, IsPinpointingLog}
use Rattle.job_inputs.specs.Answer.{line}
use Rattle.job_inputs.specs.declared.status.Status.{Status}
use Rattle.pinpointing_jobs.specs.declared.wanted.Wanted.TheVariants.{Justifications, Repairs}
use Rattle.pinpointing_jobs.specs.Known.{AreKnown}
use Rattle.pinpointing_jobs.specs.Wanted.{HasAll, ShowsAll}
use Rattle.pinpointing_jobs.specs.Listings.{end_status}

-- the number of the workload, and how many axioms, justifications and repairs there are
abbrev pub counts_text : ℕ → ℕ → ℕ → ℕ → List ℕ
counts_text number axioms justifications repairs =
    heading_line (codes "workload") number ++ (heading_line (codes "axioms") axioms
    ++ (heading_line (codes "justifications") justifications ++ heading_line (codes "repairs") repairs))

-- a finished search counts all sets
pub record AreCounted (number : ℕ) (o : Listed) (q : Asked) (log : List Entry) (out : List ℕ) : Type 0 where
  pub justifications : List Limited
  pub repairs : List Limited
  pub text : out ≡ counts_text number (length o.axioms) (length justifications) (length repairs)
  pub all_justifications : HasAll Justifications o q justifications
  pub all_repairs : HasAll Repairs o q repairs
  pub shows : ShowsAll o q log

-- one that did not finish has spent the budget, and lacks some
pub record AreUncounted (o : Listed) (q : Asked) (budget : ℕ) (log : List Entry) (out : List ℕ) : Type 0 where
  pub text : out ≡ line (codes "undecided")
  pub spent : spent_of log ≡ budget
  pub justifications : List Limited
  pub are_some : (j : Limited) → Contains justifications j → IsJustificationSet o q j
  pub known : AreKnown o q log justifications

-- what is printed of the counts, where the search finished and where it did not
abbrev pub IsCount : ℕ → Listed → Asked → ℕ → List Entry → List ℕ → Bool → Type 0
IsCount number o q budget log out true = AreCounted number o q log out
IsCount number o q budget log out false = AreUncounted o q budget log out

-- a query was searched: so many sets were found, and this text says so
pub record IsCounted (number : ℕ) (o : Listed) (q : Asked) (budget : ℕ) (log : List Entry) (s : Status) (out : List ℕ) :
    Type 0 where
  pub finished : Bool
  pub status : s ≡ end_status finished
  pub honest : IsPinpointingLog o q budget log
  pub count : IsCount number o q budget log out finished
