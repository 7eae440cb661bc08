use Rattle.role_box.proofs.Rows.{own_more}
use Rattle.role_box.proofs.closure.own_rows.Goals as goal

pub loop-role-preserved : goal.loop-role-preserved
loop-role-preserved c =
    rw c.in_ok-push.ensures.items (own_more _ _ _ _ c.no_roles-row.ensures c.put_role.ensures c.loop-role.invariant)
