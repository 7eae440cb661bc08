use Rattle.certificate_lines.proofs.ReadBack.{iri_read}
use Rattle.certificate_lines.proofs.laws.iris_are_read_back.Goals as goal

pub returns : goal.returns
returns c = iri_read
