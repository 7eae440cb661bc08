use Rattle.role_box.proofs.Tested.{simple_test}
use Rattle.role_box.proofs.simple_test_is_simple.Goals as goal

pub returns : goal.returns
returns c = simple_test
