use Rattle.edit_session.proofs.Beginning.{empty_serves}
use Rattle.edit_session.proofs.laws.empty_logs_serve.Goals as goal

pub returns : goal.returns
returns c = empty_serves
