use Rattle.std.proofs.Common.{arith}
use Rattle.role_box.proofs.Answering.{made_closed}
use Rattle.role_box.proofs.role_box.RoleBox.build.Goals as goal

pub invariant_of-result : goal.invariant_of-result
invariant_of-result c =
    let paths = rw c.deref.ensures.value at c.in_ok-rows.ensures.paths in
    let marks = rw c.deref-2.ensures.value at c.transitive_roles-transitive.ensures in
    let above = rw c.deref-3.ensures.value at c.joined_rows-complex.ensures in
    made_closed c.in_ok-axioms.axioms.items c.in_ok-rows.rows.items c.transitive_roles-transitive.result
    c.joined_rows-complex.result c.role_count.result
    c.role_count.ensures.within (omega (arith, c.in_ok-axioms.ensures.listed, c.role_count.ensures.count))
    c.in_ok-rows.ensures.count paths marks above
