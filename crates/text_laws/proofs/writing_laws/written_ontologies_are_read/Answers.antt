use Rattle.text_laws.proofs.Read.{written_is_read}
use Rattle.text_laws.proofs.writing_laws.written_ontologies_are_read.Goals as goal

pub returns : goal.returns
returns c = written_is_read
