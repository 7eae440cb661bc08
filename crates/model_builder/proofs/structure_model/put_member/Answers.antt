use Rattle.model_builder.proofs.Inserted.{member_put}
use Rattle.model_builder.proofs.structure_model.put_member.Goals as goal

pub returns : goal.returns
returns c = member_put _ _ _ _ c.in_ok-put_class.ensures.put
