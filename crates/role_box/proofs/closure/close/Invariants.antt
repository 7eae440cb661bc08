use Rattle.std.proofs.Common.{◌≡◌, ℕ}
use Rattle.role_box.specs.Rows.{linked}
use Rattle.role_box.specs.Paths.{has_path}
use Rattle.role_box.proofs.closure.close.Given as goal

abbrev pub invariant-loop-middle : goal.invariant-loop-middle
invariant-loop-middle l = (r s : ℕ) → linked l.rows r s ≡ has_path (linked l.initial.rows) l.middle r s
