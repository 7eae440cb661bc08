use Rattle.audit_check.specs.Verdicts.{RepairsHold}
use Rattle.audit_check.proofs.shown.first_failing_repair.Given as goal

abbrev pub invariant-loop-place : goal.invariant-loop-place
invariant-loop-place l = RepairsHold l.ontology.axioms l.query l.list l.place
