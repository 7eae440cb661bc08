use Rattle.tableau_specs.proofs.Agreeing.{blocks_agree}
use Rattle.tableau_specs.proofs.block_laws.blocks_follow_what_stands_below.Goals as goal

pub returns : goal.returns
returns c = blocks_agree
