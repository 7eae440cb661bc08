use Rattle.search_laws.proofs.Beginning.{one_beginning_runs_on}
use Rattle.search_laws.proofs.beginning_laws.one_beginning_runs_on.Goals as goal

pub returns : goal.returns
returns c = one_beginning_runs_on
