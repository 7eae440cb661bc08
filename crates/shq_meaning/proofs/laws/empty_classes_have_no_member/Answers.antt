use Rattle.std.proofs.Common.{}
use Rattle.shq_meaning.proofs.Asserted.{empty_class_has_no_member}
use Rattle.shq_meaning.proofs.laws.empty_classes_have_no_member.Goals as goal

pub returns : goal.returns
returns c = empty_class_has_no_member
