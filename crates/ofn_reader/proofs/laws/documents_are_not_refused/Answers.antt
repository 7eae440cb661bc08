use Rattle.ofn_reader.proofs.Unique.{documents_not_refused}
use Rattle.ofn_reader.proofs.laws.documents_are_not_refused.Goals as goal

pub returns : goal.returns
returns c = documents_not_refused
