use Rattle.text_laws.proofs.LongerDocuments.{documents_end}
use Rattle.text_laws.proofs.end_laws.documents_end_in_their_text.Goals as goal

pub returns : goal.returns
returns c = documents_end
