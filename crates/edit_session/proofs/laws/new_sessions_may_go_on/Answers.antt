use Rattle.edit_session.proofs.Beginning.{new_may_go_on}
use Rattle.edit_session.proofs.laws.new_sessions_may_go_on.Goals as goal

pub returns : goal.returns
returns c = new_may_go_on
