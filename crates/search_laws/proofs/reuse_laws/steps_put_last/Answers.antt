use Rattle.search_laws.proofs.Last.{steps_put_last}
use Rattle.search_laws.proofs.reuse_laws.steps_put_last.Goals as goal

pub returns : goal.returns
returns c = steps_put_last
