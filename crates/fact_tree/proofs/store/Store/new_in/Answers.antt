use Rattle.std.proofs.Common.{suc, ◌+◌, ◌≡◌, ap, ◌∙◌, arith}
use Rattle.fact_tree.specs.Kept.{grown, empty}
use Rattle.fact_tree.proofs.store.Store.new_in.Goals as goal

pub loop-preserved : goal.loop-preserved
loop-preserved g c =
    let n = c.loop.counter in
    c.in_ok-grow.ensures.put ∙ ap (grown (0, 0)) c.loop.invariant ∙ ap empty (let e : suc n ≡ n + 1 = omega arith in e)
