use Rattle.certificate_lines.proofs.ReadBack.{number_read}
use Rattle.certificate_lines.proofs.laws.numbers_are_read_back.Goals as goal

pub returns : goal.returns
returns c = number_read
