use Rattle.audit_check.proofs.Checkable.{in_limit_checkable}
use Rattle.audit_jobs.proofs.auditing.judge.Goals as goal

pub verify-requires-clause-checkable : goal.verify-requires-clause-checkable
verify-requires-clause-checkable c =
    in_limit_checkable c.args.input.now.ontology c.args.input.now.asked c.requires.within
