use Rattle.std.proofs.Common.{◌+◌, arith}
use Rattle.fact_tree.proofs.Growing.{on_ok_by}
use Rattle.fact_tree.proofs.Fresh.{count_edge, count_has}
use Rattle.fact_tree.proofs.tree.FactTree.put_node.Goals as goal

pub add-requires-2 : goal.add-requires-2
add-requires-2 g c = omega (
  arith,
  count_edge c.args.self.now c.add.new.self c.args.role c.args.from c.args.node c.requires.node
      c.in_ok-add.ensures.added,
)

pub returns-clause-nodes : goal.returns-clause-nodes
returns-clause-nodes g c =
    let count =
    count_edge c.args.self.now c.add.new.self c.args.role c.args.from c.args.node c.requires.node
    c.in_ok-add.ensures.added in
    on_ok_by c.add-2.result _ _
    (count_has c.add.new.self c.add-2.new.self c.args.node c.args.concept (c.args.node + 1) count) c.add-2.ensures.added
