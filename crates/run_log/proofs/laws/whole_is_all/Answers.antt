use Rattle.run_log.proofs.Named.{whole}
use Rattle.run_log.proofs.laws.whole_is_all.Goals as goal

pub returns : goal.returns
returns c = whole
