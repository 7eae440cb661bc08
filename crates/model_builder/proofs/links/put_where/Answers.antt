use Rattle.model_builder.proofs.Inserted.{link_put_where}
use Rattle.model_builder.proofs.links.put_where.Goals as goal

pub returns : goal.returns
returns c = link_put_where _ _ _ _ _ _ c.if-not-condition.false c.in_ok-put_pair.ensures.put
