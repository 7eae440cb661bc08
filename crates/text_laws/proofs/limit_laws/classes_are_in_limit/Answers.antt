use Rattle.text_laws.proofs.InLimit.{classes_in_limit}
use Rattle.text_laws.proofs.limit_laws.classes_are_in_limit.Goals as goal

pub returns : goal.returns
returns c = classes_in_limit
