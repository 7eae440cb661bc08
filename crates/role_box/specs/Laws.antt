-- What the tests of roles answer, in terms of chains.
use Rattle.std.specs.Prelude.{◌≡◌, ℕ, true, ◌↔◌, List}
use Rattle.calculus_specs.specs.Roles.{IsBelow, IsSimple}
use Rattle.role_box.specs.declared.role_axiom.RoleAxiom.{RoleAxiom}
use Rattle.role_box.specs.Steps.{Leads, IsTransitive}
use Rattle.role_box.specs.Paths.{is_below}
use Rattle.role_box.specs.Simple.{is_simple}

-- the test by paths answers yes exactly where a chain of the axioms leads from the one role to the other
abbrev pub TestIsBelow : Type 0
TestIsBelow = (axioms : List RoleAxiom) (r s : ℕ) → (is_below axioms r s ≡ true) ↔ IsBelow (Leads axioms) r s

-- the test by paths answers yes exactly where no transitive role is below the role
abbrev pub TestIsSimple : Type 0
TestIsSimple = (axioms : List RoleAxiom) (s : ℕ)
    → (is_simple axioms s ≡ true) ↔ IsSimple (Leads axioms) (IsTransitive axioms) s
