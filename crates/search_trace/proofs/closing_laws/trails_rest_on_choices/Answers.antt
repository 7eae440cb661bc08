use Rattle.std.specs.FinSet as sets
use Rattle.search_trace.proofs.Chronological.{all_within_choices, items_after}
use Rattle.search_trace.proofs.closing_laws.trails_rest_on_choices.Goals as goal

pub returns : goal.returns
returns c = λ is. (all_within_choices sets.empty is, items_after sets.empty is)
