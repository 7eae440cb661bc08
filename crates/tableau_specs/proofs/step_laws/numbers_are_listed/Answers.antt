use Rattle.tableau_specs.proofs.Listed.{reached_listed}
use Rattle.tableau_specs.proofs.step_laws.numbers_are_listed.Goals as goal

pub returns : goal.returns
returns c = reached_listed
