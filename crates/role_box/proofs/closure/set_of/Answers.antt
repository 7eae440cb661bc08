use Rattle.std.proofs.Common.{arith}
use Rattle.role_box.proofs.Limits.{get_or_limit}
use Rattle.role_box.proofs.closure.set_of.Goals as goal

pub put_role-requires : goal.put_role-requires
put_role-requires c = omega (arith, get_or_limit c.args.roles.now c.loop-role.role-index c.loop-role-test.true)
