-- The test for simple roles.
use Rattle.std.proofs.Common.{◌≡◌, ℕ, Bool, true, List, ◌&&◌, refl, arith}
use Rattle.std.specs.Prelude.{◌↔◌}
use Rattle.calculus_specs.specs.Roles.{IsSimple}
use Rattle.role_box.specs.declared.role_axiom.RoleAxiom.{RoleAxiom}
use Rattle.role_box.specs.Steps.{Leads, is_transitive, IsTransitive}
use Rattle.role_box.specs.Paths.{role_limit, is_below}
use Rattle.role_box.specs.Closure.{any_below}
use Rattle.role_box.proofs.Answering.{simple_from_test}
use Rattle.shq_terms.proofs.Bools.{same_truth}
use Rattle.role_box.specs.Simple.{is_simple}
use Rattle.role_box.specs.Laws.{TestIsSimple}

pub simple_test : TestIsSimple
unfolding is_simple
simple_test axioms s =
    simple_from_test axioms (role_limit axioms) s
    (any_below (role_limit axioms) (λ t. is_transitive axioms t && is_below axioms t s)) (omega arith) refl

-- an answer that says whether the role is simple
pub test_answered : (axioms : List RoleAxiom) (s : ℕ) (answer : Bool)
    → ((answer ≡ true) ↔ IsSimple (Leads axioms) (IsTransitive axioms) s) → answer ≡ is_simple axioms s
test_answered axioms s answer h =
    same_truth answer (is_simple axioms s) (λ a. (simple_test axioms s).1 (h.0 a))
    (λ b. h.1 ((simple_test axioms s).0 b))
