use Rattle.text_laws.proofs.ReadBack.{query_texts_read}
use Rattle.text_laws.proofs.writing_laws.query_texts_are_read.Goals as goal

pub returns : goal.returns
returns c = query_texts_read
