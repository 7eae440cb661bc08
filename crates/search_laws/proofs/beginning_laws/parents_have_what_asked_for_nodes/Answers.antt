use Rattle.search_laws.proofs.ParentsAsk.{parents_have_asked}
use Rattle.search_laws.proofs.beginning_laws.parents_have_what_asked_for_nodes.Goals as goal

pub returns : goal.returns
returns c = parents_have_asked
