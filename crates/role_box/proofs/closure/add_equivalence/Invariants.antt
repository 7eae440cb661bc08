use Rattle.std.proofs.Common.{◌≡◌, ℕ, ◌||◌, ◌&&◌, drop}
use Rattle.role_box.specs.Rows.{has, linked}
use Rattle.role_box.specs.Steps.{is_among}
use Rattle.role_box.proofs.closure.add_equivalence.Given as goal

abbrev pub invariant-loop-role : goal.invariant-loop-role
invariant-loop-role l = (r s : ℕ)
    → (linked l.rows r s || (is_among (drop l.role-index l.roles) r && has l.all s))
    ≡ (linked l.initial.rows r s || (is_among l.roles r && has l.all s))
