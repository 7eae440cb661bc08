use Rattle.ofn_reader.proofs.Unique.{queries}
use Rattle.ofn_reader.proofs.laws.queries_are_unique.Goals as goal

pub returns : goal.returns
returns c = queries
