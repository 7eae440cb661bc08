use Rattle.audit_jobs.proofs.Printed.{printed}
use Rattle.audit_jobs.proofs.law.printed_evidence_is_accepted.Goals as goal

pub returns : goal.returns
returns c = printed
