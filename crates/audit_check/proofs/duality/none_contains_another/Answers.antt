use Rattle.audit_check.proofs.Ascending.{none_contains}
use Rattle.audit_check.proofs.duality.none_contains_another.Goals as goal

pub returns : goal.returns
returns c = none_contains
