use Rattle.std.proofs.Common.{◌≡◌, ℕ, ◌||◌, drop}
use Rattle.role_box.specs.Rows.{has}
use Rattle.role_box.specs.Steps.{is_among}
use Rattle.role_box.proofs.closure.set_of.Given as goal

abbrev pub invariant-loop-role : goal.invariant-loop-role
invariant-loop-role l = (r : ℕ) → (has l.all r || is_among (drop l.role-index l.roles) r) ≡ is_among l.roles r
