use Rattle.tableau_specs.proofs.Agreeing.{blocks_left_by_all}
use Rattle.tableau_specs.proofs.block_laws.facts_leave_blocks_below.Goals as goal

pub returns : goal.returns
returns c = blocks_left_by_all
