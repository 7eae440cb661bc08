use Rattle.audit_file.proofs.AuditFirst.{tell_malformed}
use Rattle.audit_file.proofs.laws.malformed_line_is_the_first.Goals as goal

pub returns : goal.returns
returns c = tell_malformed
