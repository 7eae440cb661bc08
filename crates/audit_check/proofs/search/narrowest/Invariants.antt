use Rattle.std.specs.Prelude.{IfNone, IfSome}
use Rattle.audit_check.specs.Territory.{AreMet, IsUnmetAt}
use Rattle.audit_check.proofs.search.narrowest.Given as goal

abbrev pub invariant-loop-place : goal.invariant-loop-place
invariant-loop-place l = record {
  none : IfNone l.narrowest (AreMet l.sets l.hit l.place);
  some : IfSome l.narrowest (IsUnmetAt l.sets l.hit);
}
