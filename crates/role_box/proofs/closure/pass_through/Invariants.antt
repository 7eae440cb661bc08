use Rattle.role_box.proofs.Rows.{IsPassed}
use Rattle.role_box.proofs.closure.pass_through.Given as goal

abbrev pub invariant-loop-place : goal.invariant-loop-place
invariant-loop-place l = IsPassed l.initial.rows l.rows l.through l.middle l.place
