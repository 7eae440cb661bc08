use Rattle.std.proofs.Common.{}
use Rattle.job_inputs.proofs.OneReading.{alone_not_refused, alone_refusals}
use Rattle.job_inputs.proofs.laws.documents_alone_are_not_refused.Goals as goal

pub returns : goal.returns
returns c = record { not_refused = alone_not_refused; one_reason = alone_refusals }
