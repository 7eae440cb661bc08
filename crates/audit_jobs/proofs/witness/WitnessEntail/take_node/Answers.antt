use Rattle.audit_jobs.proofs.Keeping.{evidence_logged}
use Rattle.audit_jobs.proofs.witness.WitnessEntail.take_node.Goals as goal

pub invariant_of-self : goal.invariant_of-self
invariant_of-self c =
    evidence_logged c.self.inside.asker c.take_node.new.self c.args.hit.now c.self.inside.evidence c.take_node.result
    c.self.invariant c.take_node.ensures.logged c.take_node.ensures.unlogged
