use Rattle.std.proofs.Common.{◌≡◌, ◌-◌}
use Rattle.audit_file.specs.AuditText.{times, justification_read}
use Rattle.audit_file.specs.Fitting.{AreOfAxioms}
use Rattle.audit_file.proofs.reading.read_justifications.Given as goal

abbrev pub invariant-loop-place : goal.invariant-loop-place
invariant-loop-place l = record {
  told : times (justification_read l.ontology) (l.count - l.place) l.audit l.reader
      ≡ times (justification_read l.ontology) l.count l.initial.audit l.initial.reader;
  of_axioms : AreOfAxioms l.ontology l.audit;
}
