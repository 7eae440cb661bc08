use Rattle.role_box.proofs.Limits.{test_is_below}
use Rattle.role_box.proofs.path_test_is_below.Goals as goal

pub returns : goal.returns
returns c = test_is_below
