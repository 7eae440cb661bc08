use Rattle.text_laws.proofs.OneText.{one_text}
use Rattle.text_laws.proofs.writing_laws.equal_texts_say_the_same.Goals as goal

pub returns : goal.returns
returns c = one_text
