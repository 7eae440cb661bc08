use Rattle.ofn_reader.proofs.Unique.{documents}
use Rattle.ofn_reader.proofs.laws.documents_are_unique.Goals as goal

pub returns : goal.returns
returns c = documents
