use Rattle.text_laws.proofs.InLimit.{classes_stay}
use Rattle.text_laws.proofs.limit_laws.classes_stay_in_limit.Goals as goal

pub returns : goal.returns
returns c = classes_stay
