use Rattle.audit_file.proofs.Counted.{written_is_read}
use Rattle.audit_file.proofs.laws.what_is_written_is_read.Goals as goal

pub returns : goal.returns
returns c = written_is_read
