use Rattle.edit_session.proofs.Standing.{stay_honest}
use Rattle.edit_session.proofs.laws.entries_stay_honest.Goals as goal

pub returns : goal.returns
returns c = stay_honest
