use Rattle.decision_jobs.proofs.FirstMalformed.{malformed_is_first}
use Rattle.decision_jobs.proofs.verdict_laws.malformed_line_is_the_first.Goals as goal

pub returns : goal.returns
returns c = malformed_is_first
