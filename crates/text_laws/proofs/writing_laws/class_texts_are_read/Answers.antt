use Rattle.text_laws.proofs.ReadBack.{class_texts_read}
use Rattle.text_laws.proofs.writing_laws.class_texts_are_read.Goals as goal

pub returns : goal.returns
returns c = class_texts_read
