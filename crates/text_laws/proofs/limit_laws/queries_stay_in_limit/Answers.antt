use Rattle.text_laws.proofs.InLimit.{queries_stay}
use Rattle.text_laws.proofs.limit_laws.queries_stay_in_limit.Goals as goal

pub returns : goal.returns
returns c = queries_stay
