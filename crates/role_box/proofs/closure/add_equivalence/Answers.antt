use Rattle.std.proofs.Common.{arith}
use Rattle.role_box.proofs.Limits.{get_or_limit}
use Rattle.role_box.proofs.Rows.{equivalence_more}
use Rattle.role_box.proofs.Sets.{has_united}
use Rattle.role_box.proofs.closure.add_equivalence.Goals as goal

pub bounds-rows-role : goal.bounds-rows-role
bounds-rows-role c = omega (arith, get_or_limit c.args.roles.now c.loop-role.role-index c.loop-role-test.true)

pub loop-role-preserved : goal.loop-role-preserved
loop-role-preserved c =
    equivalence_more _ _ _ _ _ _ c.loop-role-test.true
    (omega (arith, get_or_limit c.args.roles.now c.loop-role.role-index c.loop-role-test.true))
    (λ s. has_united _ _ _ s c.unite.ensures) c.loop-role.invariant
