use Rattle.std.proofs.Common.{arith}
use Rattle.role_box.proofs.Limits.{item_limit}
use Rattle.role_box.proofs.closure.transitive_roles.Goals as goal

pub add_transitive-requires : goal.add_transitive-requires
add_transitive-requires c = omega (
  arith,
  item_limit c.args.axioms.now c.loop-role_axiom.role_axiom-index c.role_axiom-item.result c.loop-role_axiom-test.true
      c.role_axiom-item.is,
)
