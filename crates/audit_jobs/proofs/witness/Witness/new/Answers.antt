use Rattle.std.proofs.Common.{ap}
use Rattle.pinpointing_jobs.specs.AskerLists.{AskerLists}
use Rattle.audit_jobs.proofs.Keeping.{evidence_begun}
use Rattle.audit_jobs.proofs.witness.Witness.new.Goals as goal

pub invariant_of-result : goal.invariant_of-result
invariant_of-result c =
    evidence_begun c.new.result c.no_evidence.result (ap (λ (a : AskerLists). a.gained) c.new.ensures)
    c.no_evidence.ensures.refutations c.no_evidence.ensures.models
