use Rattle.ofn_reader.proofs.OneReason.{query_refusals}
use Rattle.ofn_reader.proofs.laws.query_refusals_are_unique.Goals as goal

pub returns : goal.returns
returns c = query_refusals
