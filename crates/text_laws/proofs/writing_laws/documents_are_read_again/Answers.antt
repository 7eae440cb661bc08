use Rattle.text_laws.proofs.CanWrite.{read_again}
use Rattle.text_laws.proofs.writing_laws.documents_are_read_again.Goals as goal

pub returns : goal.returns
returns c = read_again
