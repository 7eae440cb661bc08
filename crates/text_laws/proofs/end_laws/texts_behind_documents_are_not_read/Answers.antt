use Rattle.text_laws.proofs.LongerDocuments.{longer_documents}
use Rattle.text_laws.proofs.end_laws.texts_behind_documents_are_not_read.Goals as goal

pub returns : goal.returns
returns c = longer_documents
