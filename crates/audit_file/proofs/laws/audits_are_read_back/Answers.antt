use Rattle.audit_file.proofs.TextBack.{audits_back}
use Rattle.audit_file.proofs.laws.audits_are_read_back.Goals as goal

pub returns : goal.returns
returns c = audits_back
