use Rattle.subsumption.proofs.Order.{relating_order}
use Rattle.subsumption.proofs.relation_laws.relating_keeps_order.Goals as goal

pub returns : goal.returns
returns c = relating_order
