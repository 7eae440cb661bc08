use Rattle.shq_oracle.proofs.Checkable.{in_limit_checkable}
use Rattle.decision_jobs.proofs.judging.judge_refutation.Goals as goal

pub check-requires-clause-checkable : goal.check-requires-clause-checkable
check-requires-clause-checkable c = in_limit_checkable c.args.ontology.now c.args.asked.now c.requires.within
