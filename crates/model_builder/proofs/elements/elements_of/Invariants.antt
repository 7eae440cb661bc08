use Rattle.blocking.specs.Trail.{facts_in}
use Rattle.model_builder.specs.Numbered.{AreNumbered}
use Rattle.model_builder.proofs.elements.elements_of.Given as goal

abbrev pub invariant-loop-node : goal.invariant-loop-node
invariant-loop-node g l =
    AreNumbered l.tree.first (facts_in l.tree.entries) l.node l.elements.numbers.items l.elements.originals.items
