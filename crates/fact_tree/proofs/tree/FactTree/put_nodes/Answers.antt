use Rattle.std.proofs.Common.{◌+◌, ◌-◌, ◌∷◌, [], arith}
use Rattle.calculus_specs.specs.declared.facts.Fact.TheVariants.{Has, Edge}
use Rattle.calculus_specs.specs.State.{new_nodes}
use Rattle.fact_tree.proofs.Fresh.{moved_on, begins_on, nodes_step}
use Rattle.fact_tree.proofs.tree.FactTree.put_nodes.Goals as goal

pub loop-place-preserved : goal.loop-place-preserved
loop-place-preserved g c =
    let x = c.args.from in
    let s = c.args.role in
    let e = c.args.concept in
    let i = c.loop-place.place in
    let n = c.args.count in
    let first = c.args.first in
    let part = Edge s x (first + i) ∷ Has (first + i) e ∷ [] in
    record {
      facts =
          moved_on c.loop-place.self c.put_node.new.self _ part (new_nodes x s e (first + (i + 1)) (n - (i + 1)))
          (new_nodes x s e (first + i) (n - i)) c.loop-place.invariant.facts
          (nodes_step x s e first n i c.loop-place-test.true) c.in_ok-put_node.ensures.made;
      nodes = omega (arith, c.in_ok-put_node.ensures.nodes);
      begins =
          begins_on c.args.self.now c.loop-place.self c.put_node.new.self part c.loop-place.invariant.begins
          c.in_ok-put_node.ensures.made;
    }
