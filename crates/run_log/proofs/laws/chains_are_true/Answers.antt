use Rattle.run_log.proofs.Told.{chain_is_true}
use Rattle.run_log.proofs.laws.chains_are_true.Goals as goal

pub returns : goal.returns
returns c = chain_is_true
