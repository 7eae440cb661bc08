use Rattle.text_laws.proofs.ReadAdded.{axiom_texts_read}
use Rattle.text_laws.proofs.writing_laws.axiom_texts_are_read.Goals as goal

pub returns : goal.returns
returns c = axiom_texts_read
