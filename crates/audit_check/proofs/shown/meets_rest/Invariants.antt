use Rattle.std.proofs.Common.{◌≡◌, ◌+◌, drop}
use Rattle.finite_model.specs.ModelLists.{meaning}
use Rattle.audit_check.specs.Sound.{meets_rest}
use Rattle.audit_check.proofs.shown.meets_rest.Given as goal

abbrev pub invariant-loop-index : goal.invariant-loop-index
invariant-loop-index l =
    meets_rest (meaning l.model) 1 l.set.members l.ontology.axioms
    ≡ meets_rest (meaning l.model) (l.index + 1) l.set.members (drop l.index l.ontology.axioms)
