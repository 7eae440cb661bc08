use Rattle.std.proofs.Common.{◌≡◌, ◌+◌, ◌-◌, [], ◌∷◌, ◌++◌, ap}
use Rattle.std.specs.List.{range_with_len}
use Rattle.refutation_check.specs.Open.{Open, knowing_nodes}
use Rattle.refutation_check.proofs.Grown.{node_step}
use Rattle.refutation_check.proofs.Ranges.{next_node, new_left}
use Rattle.refutation_check.proofs.open_branches.OpenBranches.know_all.Goals as goal

pub loop-place-preserved : goal.loop-place-preserved
loop-place-preserved c =
    let first = c.args.first in
    let place = c.loop-place.place in
    let count = c.args.count in
    let nodes : c.add_node.new.self.branch.nodes ≡ c.loop-place.self.branch.nodes ++ (first + place) ∷ [] =
    ap (λ (o : Open). o.branch.nodes) c.in_ok-add_node.ensures in
    record {
      all =
          node_step c.loop-place.self c.add_node.new.self (knowing_nodes c.args.self.now (range_with_len first count))
          (first + place)
          (range_with_len (first + (place + 1)) (count - (place + 1))) (range_with_len (first + place) (count - place))
          c.in_ok-add_node.ensures (next_node first place count c.loop-place-test.true) c.loop-place.invariant.all;
      new =
          new_left c.loop-place.self.branch.nodes c.add_node.new.self.branch.nodes first place count nodes
          c.loop-place-test.true c.loop-place.invariant.new;
    }
