use Rattle.audit_check.proofs.Audited.{audited_yes}
use Rattle.audit_check.proofs.duality.audited_are_minimal_yes.Goals as goal

pub returns : goal.returns
returns g c = audited_yes g.C.Claim.holds
