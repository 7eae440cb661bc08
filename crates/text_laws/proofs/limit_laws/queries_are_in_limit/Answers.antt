use Rattle.text_laws.proofs.InLimit.{queries_in_limit}
use Rattle.text_laws.proofs.limit_laws.queries_are_in_limit.Goals as goal

pub returns : goal.returns
returns c = queries_in_limit
