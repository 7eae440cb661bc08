use Rattle.ofn_reader.proofs.Unique.{queries_not_refused}
use Rattle.ofn_reader.proofs.laws.queries_are_not_refused.Goals as goal

pub returns : goal.returns
returns c = queries_not_refused
