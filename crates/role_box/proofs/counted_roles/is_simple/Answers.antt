use Rattle.role_box.proofs.Tested.{test_answered}
use Rattle.role_box.proofs.counted_roles.is_simple.Goals as goal

pub returns : goal.returns
returns c = test_answered c.args.roles.now c.args.role c.simple.result c.simple.ensures
