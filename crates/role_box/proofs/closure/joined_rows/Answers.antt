use Rattle.role_box.proofs.Rows.{joined_more}
use Rattle.role_box.proofs.closure.joined_rows.Goals as goal

pub loop-role-preserved : goal.loop-role-preserved
loop-role-preserved c = joined_more _ _ _ _ _ _ c.has_number.ensures c.unite_where.ensures c.loop-role.invariant
