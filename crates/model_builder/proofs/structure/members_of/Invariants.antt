use Rattle.blocking.specs.Trail.{facts_in}
use Rattle.model_builder.specs.Collected.{AreMembers}
use Rattle.model_builder.proofs.structure.members_of.Given as goal

abbrev pub invariant-loop-element : goal.invariant-loop-element
invariant-loop-element g l = AreMembers l.concepts (facts_in l.tree.entries) l.originals l.element l.members.items
