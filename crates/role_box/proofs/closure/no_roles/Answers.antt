use Rattle.role_box.proofs.Sets.{has_none}
use Rattle.role_box.proofs.closure.no_roles.Goals as goal

pub returns : goal.returns
returns c = has_none
