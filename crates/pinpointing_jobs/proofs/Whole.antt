-- A list that the log shows to be whole is not told as partial.
use Rattle.std.proofs.Common.{◌≡◌, ℕ, Bool, true, false, List}
use Rattle.lane_sieve.specs.Sets.{NumberSet}
use Rattle.axiom_sets.specs.Sets.{Limited}
use Rattle.shq_terms.specs.Listed.{Listed}
use Rattle.shq_terms.specs.declared.axioms.Query.{Query as Asked}
use Rattle.pinpointing_specs.specs.LocalModule.{IsLocalModule, of_axioms}
use Rattle.query_asker.specs.Entry.{Entry}
use Rattle.job_inputs.specs.declared.status.Status.{Status}
use Rattle.job_inputs.specs.declared.status.Status.TheVariants.{Done}
use Rattle.pinpointing_jobs.specs.declared.wanted.Wanted.{Wanted}
use Rattle.pinpointing_jobs.specs.declared.wanted.Wanted.TheVariants.{Justifications, Repairs}
use Rattle.pinpointing_jobs.specs.Known.{AreKnown}
use Rattle.pinpointing_jobs.specs.Wanted.{HasKnown}
use Rattle.pinpointing_jobs.specs.Listings.{end_status, IsListing}
use Rattle.pinpointing_jobs.specs.Counts.{IsCount}
use Rattle.pinpointing_jobs.specs.ListLaws.{ShowsWhole, WholeListsAreDone, WholeCountsAreDone}

module _ (o : Listed) (q : Asked) (m : NumberSet) (log : List Entry) (is : IsLocalModule o.axioms q m)
    (whole : ShowsWhole o q m log) where
  none_lacking : (sets : List Limited) → AreKnown o q log sets → ⊥
  none_lacking sets known =
      let leaf =
      whole.leaves known.left_open.left
      (λ j x. known.left_open.meets (of_axioms o.axioms j) (known.shown m j is (whole.justifications j x))) in
      known.left_open.no_leaf m leaf.0 is leaf.1 leaf.2 leaf.3

  not_partial : (w : Wanted) (sets : List Limited) → HasKnown w o q log sets → ⊥
  not_partial Justifications sets known = none_lacking sets known
  not_partial Repairs sets known = none_lacking known.labels known.known

  listed : (w : Wanted) (budget : ℕ) (sets : List Limited) (s : Status) (b : Bool) → s ≡ end_status b
      → IsListing w o q budget log sets b → s ≡ Done
  listed w budget sets s true e listing = e
  listed w budget sets s false e listing = absurd (not_partial w sets listing.0.known)

  counted : (number budget : ℕ) (s : Status) (out : List ℕ) (b : Bool) → s ≡ end_status b
      → IsCount number o q budget log out b → s ≡ Done
  counted number budget s out true e count = e
  counted number budget s out false e count = absurd (none_lacking count.justifications count.known)

pub lists_done : WholeListsAreDone
lists_done w o q budget log s out m is whole x =
    listed o q m log is whole w budget x.sets s x.finished x.status x.listing

pub counts_done : WholeCountsAreDone
counts_done number o q budget log s out m is whole x =
    counted o q m log is whole number budget s out x.finished x.status x.count
