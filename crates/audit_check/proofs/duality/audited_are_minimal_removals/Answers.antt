use Rattle.audit_check.proofs.Audited.{audited_removals}
use Rattle.audit_check.proofs.duality.audited_are_minimal_removals.Goals as goal

pub returns : goal.returns
returns g c = audited_removals g.C.Claim.holds
