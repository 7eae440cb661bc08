use Rattle.std.proofs.Common.{}
use Rattle.runs_everywhere.proofs.Decided.{accepted_fails}
use Rattle.runs_everywhere.proofs.verdicts.accepted_queries_fail_in_a_finite_world.Goals as goal

pub returns : goal.returns
returns c = accepted_fails
