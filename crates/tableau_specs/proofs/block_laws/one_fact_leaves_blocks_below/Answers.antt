use Rattle.tableau_specs.proofs.Agreeing.{blocks_left}
use Rattle.tableau_specs.proofs.block_laws.one_fact_leaves_blocks_below.Goals as goal

pub returns : goal.returns
returns c = blocks_left
