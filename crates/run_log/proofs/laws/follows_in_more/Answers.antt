use Rattle.run_log.proofs.Named.{more}
use Rattle.run_log.proofs.laws.follows_in_more.Goals as goal

pub returns : goal.returns
returns c = more
