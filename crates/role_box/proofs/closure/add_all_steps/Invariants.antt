use Rattle.std.proofs.Common.{◌≡◌, ℕ, ◌||◌, drop}
use Rattle.role_box.specs.Rows.{linked}
use Rattle.role_box.specs.Steps.{leads}
use Rattle.role_box.proofs.closure.add_all_steps.Given as goal

abbrev pub invariant-loop-role_axiom : goal.invariant-loop-role_axiom
invariant-loop-role_axiom l = (r s : ℕ)
    → (linked l.rows r s || leads (drop l.role_axiom-index l.axioms) r s)
    ≡ (linked l.initial.rows r s || leads l.axioms r s)
