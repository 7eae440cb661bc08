use Rattle.tableau_specs.proofs.Longer.{reached_longer}
use Rattle.tableau_specs.proofs.step_laws.tables_may_grow.Goals as goal

pub returns : goal.returns
returns c = reached_longer
