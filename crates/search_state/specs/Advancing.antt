-- What a step makes of a search.
use Rattle.std.specs.Prelude.{◌≡◌, ◌+◌}
use Rattle.tableau_specs.specs.Steps.{SearchContext, IsLegal}
use Rattle.step_agenda.specs.Trail.{items_of}
use Rattle.search_state.specs.Progress.{ProgressLists, IsSameQuery, IsSearching}

-- the search has made one legal step
pub record HasAdvanced (w : SearchContext) (old new : ProgressLists) : Type 0 where
  pub same : IsSameQuery old new
  pub searching : IsSearching w new
  pub is_legal : IsLegal w (items_of old.entries) (items_of new.entries)
  pub counted : new.steps ≡ old.steps + 1
