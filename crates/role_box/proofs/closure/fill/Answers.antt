use Rattle.std.proofs.Common.{arith}
use Rattle.role_box.proofs.Rows.{closed_paths}
use Rattle.role_box.proofs.closure.fill.Goals as goal

pub returns : goal.returns
returns c = closed_paths c.args.axioms.now _ _ _ _ (omega arith) c.requires.own c.add_all_steps.ensures c.close.ensures
