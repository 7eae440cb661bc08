use Rattle.tableau_specs.proofs.PlainClash.{plain_is_clash}
use Rattle.tableau_specs.proofs.state_laws.a_plain_clash_is_a_clash.Goals as goal

pub returns : goal.returns
returns c = plain_is_clash
