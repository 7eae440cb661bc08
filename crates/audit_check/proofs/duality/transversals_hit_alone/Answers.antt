use Rattle.audit_check.proofs.Hits.{told_by_hits}
use Rattle.audit_check.proofs.duality.transversals_hit_alone.Goals as goal

pub returns : goal.returns
returns c = told_by_hits
