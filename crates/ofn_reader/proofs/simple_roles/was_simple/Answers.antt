use Rattle.role_box.proofs.Tested.{test_answered}
use Rattle.ofn_reader.proofs.simple_roles.was_simple.Goals as goal

pub returns : goal.returns
returns c = test_answered c.args.roles.now c.args.role c.simple.result c.simple.ensures
