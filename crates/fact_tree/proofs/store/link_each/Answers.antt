use Rattle.std.proofs.Common.{◌+◌, drop, sym, ap, ◌∙◌, List, ℕ}
use Rattle.std.proofs.Math.ListN.{drop_of_length-le}
use Rattle.fact_tree.specs.Kept.{set_each}
use Rattle.fact_tree.proofs.Each.{set_each_step}
use Rattle.fact_tree.proofs.store.link_each.Goals as goal

pub loop-node-preserved : goal.loop-node-preserved
loop-node-preserved c =
    ap (set_each (drop (c.loop-node.node-index + 1) c.args.nodes.now) c.args.to) c.link.ensures
    ∙ sym (set_each_step c.args.nodes.now c.loop-node.node-index c.args.to c.loop-node.links c.loop-node-test.true)
    ∙ c.loop-node.invariant

pub returns : goal.returns
returns c =
    ap (λ (ps : List ℕ). set_each ps c.args.to c.loop-node.links)
    (sym (drop_of_length-le c.args.nodes.now c.loop-node-test.false))
    ∙ c.loop-node.invariant
