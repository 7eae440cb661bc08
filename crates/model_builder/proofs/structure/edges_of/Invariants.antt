use Rattle.blocking.specs.Trail.{facts_in}
use Rattle.model_builder.specs.Collected.{AreElementEdges}
use Rattle.model_builder.proofs.structure.edges_of.Given as goal

abbrev pub invariant-loop-element : goal.invariant-loop-element
invariant-loop-element g l = AreElementEdges l.tree.first (facts_in l.tree.entries) l.originals l.element l.edges.items
