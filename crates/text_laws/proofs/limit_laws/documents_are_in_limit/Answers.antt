use Rattle.text_laws.proofs.InLimit.{documents_in_limit}
use Rattle.text_laws.proofs.limit_laws.documents_are_in_limit.Goals as goal

pub returns : goal.returns
returns c = documents_in_limit
