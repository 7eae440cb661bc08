use Rattle.std.proofs.Common.{◌<◌, ℕ}
use Rattle.audit_check.specs.Listed.{ContainsAt}
use Rattle.audit_check.proofs.listed.contains_another.Given as goal

abbrev pub invariant-loop-other : goal.invariant-loop-other
invariant-loop-other l = (j : ℕ) → j < l.other → ¬ ContainsAt l.sets l.place j
