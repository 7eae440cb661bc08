use Rattle.std.proofs.Common.{◌&&◌}
use Rattle.shq_terms.specs.Concept.{name}
use Rattle.shq_meaning.specs.Truth.{holds}
use Rattle.finite_model.specs.ModelLists.{meaning}
use Rattle.subsumption.specs.ClassSets.{has_class}
use Rattle.subsumption.proofs.Members.{HoldsBelow}
use Rattle.realizer.proofs.asking.classes_at.Given as goal

abbrev pub invariant-loop-class : goal.invariant-loop-class
invariant-loop-class l =
    HoldsBelow l.class (λ x. has_class l.fn.classes x && holds (meaning l.fn.model) (name x) l.fn.element) l.limit
    l.held
