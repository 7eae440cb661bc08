use Rattle.certificate_lines.proofs.ReadBack.{words_read}
use Rattle.certificate_lines.proofs.laws.words_are_read_back.Goals as goal

pub returns : goal.returns
returns c = words_read
