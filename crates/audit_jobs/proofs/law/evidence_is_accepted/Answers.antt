use Rattle.audit_jobs.proofs.Accepted.{evidence_accepted}
use Rattle.audit_jobs.proofs.law.evidence_is_accepted.Goals as goal

pub returns : goal.returns
returns c = evidence_accepted
