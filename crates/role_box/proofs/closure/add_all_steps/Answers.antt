use Rattle.std.proofs.Common.{arith}
use Rattle.role_box.proofs.Limits.{item_limit}
use Rattle.role_box.proofs.closure.add_all_steps.Goals as goal

pub add_steps-requires-clause-listed : goal.add_steps-requires-clause-listed
add_steps-requires-clause-listed c = omega (
  arith,
  item_limit c.args.axioms.now c.loop-role_axiom.role_axiom-index c.role_axiom-item.result c.loop-role_axiom-test.true
      c.role_axiom-item.is,
)
