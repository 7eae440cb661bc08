use Rattle.text_laws.proofs.Additions.{additions_stay}
use Rattle.text_laws.proofs.limit_laws.additions_stay_in_limit.Goals as goal

pub returns : goal.returns
returns c = additions_stay
