use Rattle.std.proofs.Common.{◌≤◌, ◌∷◌, [], ap, subst, arith}
use Rattle.calculus_specs.specs.State.{node_count_from}
use Rattle.fact_tree.specs.Facts.{TreeFacts}
use Rattle.fact_tree.specs.Entries.{facts_of}
use Rattle.calculus_specs.specs.Listed.{IsLabel}
use Rattle.fact_tree.proofs.Distinct.{top_once}
use Rattle.fact_tree.proofs.Reading.{label_beyond}
use Rattle.fact_tree.proofs.Law.{count_in}
use Rattle.fact_tree.proofs.tree.FactTree.label.Goals as goal

pub returns-then-node-nodes-clause-once : goal.returns-then-node-nodes-clause-once
returns-then-node-nodes-clause-once g c = top_once

pub returns-then-node-nodes-clause-held : goal.returns-then-node-nodes-clause-held
returns-then-node-nodes-clause-held g c =
    let first = c.self.inside.first in
    let fs = facts_of c.self.inside.entries.items in
    let le : node_count_from first fs ≤ c.args.node =
    omega (arith, c.if-node-nodes.true, c.nodes.ensures.count, ap count_in c.self.view_is) in
    subst (λ (t : TreeFacts). IsLabel t.facts c.args.node (0 ∷ [])) c.self.view_is
    (label_beyond first fs c.args.node c.self.invariant.2 le)
