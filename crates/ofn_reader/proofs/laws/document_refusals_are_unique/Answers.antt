use Rattle.ofn_reader.proofs.OneReason.{document_refusals}
use Rattle.ofn_reader.proofs.laws.document_refusals_are_unique.Goals as goal

pub returns : goal.returns
returns c = document_refusals
