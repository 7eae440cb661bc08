use Rattle.std.proofs.Common.{arith}
use Rattle.role_box.proofs.Rows.{passed_more, all_passed}
use Rattle.role_box.proofs.closure.pass_through.Goals as goal

pub loop-place-preserved : goal.loop-place-preserved
loop-place-preserved c =
    passed_more _ _ _ _ _ _ _ (omega arith) c.has_number-passes.ensures c.unite_where.ensures c.loop-place.invariant

pub returns : goal.returns
returns c = all_passed _ _ _ _ c.loop-place.auto.rows c.loop-place-test.false c.loop-place.invariant
