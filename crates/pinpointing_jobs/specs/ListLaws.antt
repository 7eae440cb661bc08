-- What is written of a search is right.
use Rattle.std.specs.Prelude.{◌≡◌, ℕ, List}
use Rattle.std.specs.List.{Contains}
use Rattle.lane_sieve.specs.Sets.{NumberSet, IsPart, DoMeet}
use Rattle.axiom_sets.specs.Sets.{Limited}
use Rattle.repair_list.specs.TreeFound.{Found}
use Rattle.shq_terms.specs.Listed.{Listed}
use Rattle.shq_terms.specs.declared.axioms.Query.{Query as Asked}
use Rattle.pinpointing_specs.specs.LocalModule.{IsLocalModule, IsJustification}
use Rattle.query_asker.specs.Entry.{Entry}
use Rattle.query_asker.specs.Entries.{nodes_of}
use Rattle.query_asker.specs.Shown.{IsShownNo}
use Rattle.job_inputs.specs.declared.status.Status.{Status}
use Rattle.job_inputs.specs.declared.status.Status.TheVariants.{Done}
use Rattle.pinpointing_jobs.specs.declared.wanted.Wanted.{Wanted}
use Rattle.pinpointing_jobs.specs.Known.{IsShownJustification}
use Rattle.pinpointing_jobs.specs.Listings.{IsListAnswer}
use Rattle.pinpointing_jobs.specs.Counts.{IsCounted}
use Rattle.pinpointing_jobs.specs.Searched.{IsSearched}
use Rattle.pinpointing_jobs.specs.Written.{IsWritten, IsToldCount}

-- the list that is written has all wanted sets, or what is known of them where the budget was spent
abbrev pub ListsAreRight : Type 0
ListsAreRight =
    (w : Wanted) (o : Listed) (q : Asked) (budget : ℕ) (log : List Entry) (f : Found) (s : Status) (out : List ℕ)
    → IsSearched o q budget log f → IsWritten w o f s out → IsListAnswer w o q budget log s out

-- the numbers are those of all justifications and all repairs
abbrev pub CountsAreRight : Type 0
CountsAreRight =
    (number : ℕ) (o : Listed) (q : Asked) (budget : ℕ) (log : List Entry) (f : Found) (s : Status) (out : List ℕ)
    → IsSearched o q budget log f → IsToldCount number o f s out → IsCounted number o q budget log s out

-- the log shows that nothing is lacking: each justification, and in each set that meets all of them a node without
-- whose axioms the query does not follow
pub record ShowsWhole (o : Listed) (q : Asked) (m : NumberSet) (log : List Entry) : Type 0 where
  pub justifications : (j : NumberSet) → IsJustification o.axioms q j → IsShownJustification log q m j
  pub leaves : (t : NumberSet) → ((j : NumberSet) → IsJustification o.axioms q j → DoMeet j t)
      → (node : Limited) × Contains (nodes_of log) node × IsPart node.members t × IsShownNo log q m node.members

-- then the list is not told as partial, though the whole budget was spent
abbrev pub WholeListsAreDone : Type 0
WholeListsAreDone =
    (w : Wanted) (o : Listed) (q : Asked) (budget : ℕ) (log : List Entry) (s : Status) (out : List ℕ) (m : NumberSet)
    → IsLocalModule o.axioms q m → ShowsWhole o q m log → IsListAnswer w o q budget log s out → s ≡ Done

-- nor are the numbers left out
abbrev pub WholeCountsAreDone : Type 0
WholeCountsAreDone =
    (number : ℕ) (o : Listed) (q : Asked) (budget : ℕ) (log : List Entry) (s : Status) (out : List ℕ) (m : NumberSet)
    → IsLocalModule o.axioms q m → ShowsWhole o q m log → IsCounted number o q budget log s out → s ≡ Done
