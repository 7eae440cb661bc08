use Rattle.absorption.proofs.Lacking.{no_step}
use Rattle.absorption.proofs.closure_laws.no_step_over_a_closed_table_is_an_end.Goals as goal

pub returns : goal.returns
returns c = no_step
