use Rattle.run_log.proofs.Named.{follows_from}
use Rattle.run_log.proofs.laws.sets_are_named.Goals as goal

pub returns : goal.returns
returns c = follows_from
