use Rattle.subsumption.proofs.Order.{first_order}
use Rattle.subsumption.proofs.relation_laws.first_is_order.Goals as goal

pub returns : goal.returns
returns c = first_order
