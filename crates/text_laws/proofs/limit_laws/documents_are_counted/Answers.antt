use Rattle.text_laws.proofs.Additions.{documents_counted}
use Rattle.text_laws.proofs.limit_laws.documents_are_counted.Goals as goal

pub returns : goal.returns
returns c = documents_counted
