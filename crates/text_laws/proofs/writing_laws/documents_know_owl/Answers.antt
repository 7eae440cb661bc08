use Rattle.text_laws.proofs.Prefixes.{documents_know}
use Rattle.text_laws.proofs.writing_laws.documents_know_owl.Goals as goal

pub returns : goal.returns
returns c = documents_know
