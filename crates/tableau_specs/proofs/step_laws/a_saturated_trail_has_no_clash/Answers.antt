use Rattle.tableau_specs.proofs.Saturated.{saturated_clear}
use Rattle.tableau_specs.proofs.step_laws.a_saturated_trail_has_no_clash.Goals as goal

pub returns : goal.returns
returns c = saturated_clear
