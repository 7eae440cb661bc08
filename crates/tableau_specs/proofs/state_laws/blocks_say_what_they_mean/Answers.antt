use Rattle.tableau_specs.proofs.Blocks.{blocks_say}
use Rattle.tableau_specs.proofs.state_laws.blocks_say_what_they_mean.Goals as goal

pub returns : goal.returns
returns c = blocks_say
