use Rattle.tableau_specs.proofs.End.{end_of_search}
use Rattle.tableau_specs.proofs.step_laws.a_saturated_trail_is_an_end.Goals as goal

pub returns : goal.returns
returns c = end_of_search
