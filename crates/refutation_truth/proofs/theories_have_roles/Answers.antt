use Rattle.role_box.proofs.Limits.{test_is_below}
use Rattle.role_box.specs.RoleAxioms.{role_axioms}
use Rattle.refutation_truth.proofs.theories_have_roles.Goals as goal

pub returns : goal.returns
returns c =
    λ axioms ks. record { below_is = test_is_below (role_axioms axioms ks); transitive_is = λ t. (λ h. h, λ h. h) }
