use Rattle.blocking.specs.Trail.{facts_in}
use Rattle.model_builder.proofs.Edges.{edges_more}
use Rattle.model_builder.proofs.structure.edges_of.Goals as goal

pub loop-element-preserved : goal.loop-element-preserved
loop-element-preserved g c =
    edges_more c.args.tree.now.first (facts_in c.args.tree.now.entries) c.args.numbers.now c.args.originals.now
    c.loop-element.element c.loop-element.edges.items c.put_edges.new.edges.items c.edges-begun.result.now
    c.requires.numbers c.loop-element.invariant c.edges-begun.ensures c.in_ok-put_edges.ensures
