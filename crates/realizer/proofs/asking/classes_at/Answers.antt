use Rattle.std.proofs.Common.{◌&&◌}
use Rattle.shq_terms.specs.Concept.{name}
use Rattle.shq_meaning.specs.Truth.{holds}
use Rattle.finite_model.specs.ModelLists.{meaning}
use Rattle.subsumption.specs.ClassSets.{has_class}
use Rattle.subsumption.proofs.Members.{holds_none}
use Rattle.realizer.proofs.asking.classes_at.Goals as goal

pub loop-class-init : goal.loop-class-init
loop-class-init c =
    holds_none (λ x. has_class c.args.classes.now x && holds (meaning c.args.model.now) (name x) c.args.element)
    c.limit-limit.result c.in_ok-held.held c.in_ok-held.ensures.limit c.in_ok-held.ensures.members
