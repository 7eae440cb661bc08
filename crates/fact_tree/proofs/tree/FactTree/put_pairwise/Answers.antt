use Rattle.std.proofs.Common.{◌+◌, ◌-◌, ◌∙◌, arith}
use Rattle.calculus_specs.specs.State.{apart_from, pairwise_apart}
use Rattle.fact_tree.proofs.Fresh.{moved_on, begins_on, pairwise_step}
use Rattle.fact_tree.proofs.tree.FactTree.put_pairwise.Goals as goal

pub loop-place-preserved : goal.loop-place-preserved
loop-place-preserved g c =
    let i = c.loop-place.place in
    let n = c.args.count in
    let first = c.args.first in
    let part = apart_from (first + i) (first + i + 1) (n - i - 1) in
    record {
      facts =
          moved_on c.loop-place.self c.put_apart_from.new.self _ part (pairwise_apart (first + (i + 1)) (n - (i + 1)))
          (pairwise_apart (first + i) (n - i)) c.loop-place.invariant.facts
          (pairwise_step first n i (n - i - 1) c.loop-place-test.true (omega arith))
          c.in_ok-put_apart_from.ensures.made;
      nodes = c.in_ok-put_apart_from.ensures.nodes ∙ c.loop-place.invariant.nodes;
      begins =
          begins_on c.args.self.now c.loop-place.self c.put_apart_from.new.self part c.loop-place.invariant.begins
          c.in_ok-put_apart_from.ensures.made;
    }
