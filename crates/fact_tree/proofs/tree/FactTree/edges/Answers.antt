use Rattle.std.proofs.Common.{◌≤◌, [], ap, subst, arith}
use Rattle.calculus_specs.specs.State.{node_count_from}
use Rattle.fact_tree.specs.Facts.{TreeFacts}
use Rattle.fact_tree.specs.Entries.{facts_of}
use Rattle.calculus_specs.specs.Listed.{AreEdges}
use Rattle.fact_tree.proofs.Reading.{edges_beyond}
use Rattle.fact_tree.proofs.Law.{count_in}
use Rattle.fact_tree.proofs.tree.FactTree.edges.Goals as goal

pub returns-then-node-nodes : goal.returns-then-node-nodes
returns-then-node-nodes g c =
    let first = c.self.inside.first in
    let fs = facts_of c.self.inside.entries.items in
    let le : node_count_from first fs ≤ c.args.node =
    omega (arith, c.if-node-nodes.true, c.nodes.ensures.count, ap count_in c.self.view_is) in
    subst (λ (t : TreeFacts). AreEdges t.facts c.args.node []) c.self.view_is
    (edges_beyond first fs c.args.node c.self.invariant.2 le)
