use Rattle.std.proofs.Common.{}
use Rattle.runs_everywhere.proofs.Decided.{no_fails}
use Rattle.runs_everywhere.proofs.verdicts.a_no_fails_in_a_finite_world.Goals as goal

pub returns : goal.returns
returns c = no_fails
