use Rattle.decision_jobs.proofs.Reasons.{verdict_said}
use Rattle.decision_jobs.proofs.verifying.verdict_on.Goals as goal

pub returns-clause-verdict : goal.returns-clause-verdict
returns-clause-verdict c =
    verdict_said c.args.query.now c.args.input.now c.in_ok-read.read c.in_ok-verdict.field-0 c.in_ok-read.ensures.input
    c.in_ok-verdict.ensures
