use Rattle.audit_check.specs.Verdicts.{JustificationsHold}
use Rattle.audit_check.proofs.shown.first_failing_justification.Given as goal

abbrev pub invariant-loop-place : goal.invariant-loop-place
invariant-loop-place l = JustificationsHold l.ontology l.query l.list l.place
