use Rattle.std.proofs.Common.{arith}
use Rattle.role_box.proofs.Rows.{written_rows}
use Rattle.role_box.proofs.closure.closed_rows.Goals as goal

pub returns-clause-paths : goal.returns-clause-paths
returns-clause-paths c =
    written_rows c.args.axioms.now _ _ _ _ _ (omega arith) (omega (arith, c.in_ok-rows.ensures.count)) c.fill.ensures
