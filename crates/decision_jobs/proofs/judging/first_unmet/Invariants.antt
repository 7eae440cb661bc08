use Rattle.std.proofs.Common.{◌≡◌, ◌+◌, drop}
use Rattle.finite_model.specs.ModelLists.{meaning}
use Rattle.decision_jobs.specs.Checking.{first_unmet}
use Rattle.decision_jobs.proofs.judging.first_unmet.Given as goal

abbrev pub invariant-loop-index : goal.invariant-loop-index
invariant-loop-index l =
    first_unmet (meaning l.model) 1 l.ontology.axioms
    ≡ first_unmet (meaning l.model) (l.index + 1) (drop l.index l.ontology.axioms)
