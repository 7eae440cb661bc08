use Rattle.certificate_lines.proofs.ReadBack.{lines_read}
use Rattle.certificate_lines.proofs.laws.lines_are_read_back.Goals as goal

pub returns : goal.returns
returns c = lines_read
