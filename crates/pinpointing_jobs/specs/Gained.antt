-- What a log gains by a search that goes on with it.
use Rattle.std.specs.Prelude.{◌≡◌, ℕ, ◌-◌, ◌++◌, List}
use Rattle.repair_list.specs.TreeFound.{Found}
use Rattle.shq_terms.specs.Listed.{Listed}
use Rattle.shq_terms.specs.declared.axioms.Query.{Query as Asked}
use Rattle.query_asker.specs.Entry.{Entry}
use Rattle.query_asker.specs.Entries.{spent_of}
use Rattle.pinpointing_jobs.specs.Begun.{HasSearched}
use Rattle.pinpointing_jobs.specs.Searched.{IsSearched}

-- some entries were put last, and this is so of them and of what was left of the budget before
pub record HasGained (budget : ℕ) (old new : List Entry) (is_so : ℕ → List Entry → Type 0) : Type 0 where
  pub gained : List Entry
  pub is_more : new ≡ old ++ gained
  pub so : is_so (budget - spent_of old) gained

-- they are the log of a search that found this
abbrev pub GainsSearch : Listed → Asked → ℕ → List Entry → List Entry → Found → Type 0
GainsSearch o q budget old new f = HasGained budget old new (λ left log. IsSearched o q left log f)

-- they are how far a search has come where memory was refused
abbrev pub GainsBegun : Listed → Asked → ℕ → List Entry → List Entry → Type 0
GainsBegun o q budget old new = HasGained budget old new (HasSearched o q)
