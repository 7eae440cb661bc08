use Rattle.std.proofs.Common.{◌≡◌, ℕ, ◌||◌, drop}
use Rattle.role_box.specs.Rows.{has}
use Rattle.role_box.specs.Steps.{is_transitive}
use Rattle.role_box.proofs.closure.transitive_roles.Given as goal

abbrev pub invariant-loop-role_axiom : goal.invariant-loop-role_axiom
invariant-loop-role_axiom l = (t : ℕ)
    → (has l.transitive t || is_transitive (drop l.role_axiom-index l.axioms) t) ≡ is_transitive l.axioms t
