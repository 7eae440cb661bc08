use Rattle.audit_check.proofs.Accepted.{one_verdict}
use Rattle.audit_check.proofs.laws.verdicts_are_unique.Goals as goal

pub returns : goal.returns
returns c = one_verdict
