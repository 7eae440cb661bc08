use Rattle.std.proofs.Common.{}
use Rattle.job_inputs.proofs.Strays.{gaps_have_no_stray, strays_are_unique}
use Rattle.job_inputs.proofs.laws.gaps_have_no_stray.Goals as goal

pub returns : goal.returns
returns c = record { none = gaps_have_no_stray; one = strays_are_unique }
