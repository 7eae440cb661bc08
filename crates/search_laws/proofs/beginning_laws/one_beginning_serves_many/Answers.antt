use Rattle.search_laws.proofs.Beginning.{one_beginning_serves_many}
use Rattle.search_laws.proofs.beginning_laws.one_beginning_serves_many.Goals as goal

pub returns : goal.returns
returns c = one_beginning_serves_many
