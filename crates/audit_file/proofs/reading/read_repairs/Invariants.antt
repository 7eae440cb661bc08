use Rattle.std.proofs.Common.{◌≡◌, ◌-◌}
use Rattle.audit_file.specs.AuditText.{times, repair_read}
use Rattle.audit_file.specs.Fitting.{AreOfAxioms}
use Rattle.audit_file.proofs.reading.read_repairs.Given as goal

abbrev pub invariant-loop-place : goal.invariant-loop-place
invariant-loop-place l = record {
  told : times (repair_read l.ontology) (l.count - l.place) l.audit l.reader
      ≡ times (repair_read l.ontology) l.count l.initial.audit l.initial.reader;
  of_axioms : AreOfAxioms l.ontology l.audit;
}
