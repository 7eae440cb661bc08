use Rattle.role_box.proofs.Rows.{IsOwn}
use Rattle.role_box.proofs.closure.own_rows.Given as goal

abbrev pub invariant-loop-role : goal.invariant-loop-role
invariant-loop-role l = IsOwn l.rows.items l.role
