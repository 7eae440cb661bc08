use Rattle.text_laws.proofs.Additions.{cuts_stay}
use Rattle.text_laws.proofs.limit_laws.cuts_stay_in_limit.Goals as goal

pub returns : goal.returns
returns c = cuts_stay
