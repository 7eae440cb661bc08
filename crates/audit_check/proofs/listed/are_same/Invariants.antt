use Rattle.std.proofs.Common.{◌≡◌, ◌<◌, ℕ, get_or}
use Rattle.axiom_sets.specs.Sets.{Limited}
use Rattle.audit_check.proofs.listed.are_same.Given as goal

abbrev pub invariant-loop-place : goal.invariant-loop-place
invariant-loop-place l = (k : ℕ) (d : Limited) → k < l.place → get_or l.found k d ≡ get_or l.list k d
