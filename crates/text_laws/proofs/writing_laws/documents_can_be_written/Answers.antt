use Rattle.text_laws.proofs.CanWrite.{can_be_written}
use Rattle.text_laws.proofs.writing_laws.documents_can_be_written.Goals as goal

pub returns : goal.returns
returns c = can_be_written
