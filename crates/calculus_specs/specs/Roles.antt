-- Roles below others and simple roles, over the single steps that role axioms make: from the lower role of an inclusion
-- to the upper one, and between any two roles that an axiom makes equivalent.
use Rattle.std.specs.Prelude.{◌≡◌, ℕ, true, ◌↔◌}
use Rattle.calculus_specs.specs.Rows.{Theory}

-- a list of roles leads from the first role to the second, each by a step to the next; the list may be one role alone
pub data IsBelow (Leads : ℕ → ℕ → Type 0) : ℕ → ℕ → Type 0 where
  itself : (r : ℕ) → IsBelow Leads r r
  by_step : (r s t : ℕ) → IsBelow Leads r s → Leads s t → IsBelow Leads r t

-- no role that an axiom makes transitive is below the role
abbrev pub IsSimple : (ℕ → ℕ → Type 0) → (ℕ → Type 0) → ℕ → Type 0
IsSimple Leads IsTransitive s = (t : ℕ) → IsTransitive t → ¬ IsBelow Leads t s

-- the tests of a theory are right for these steps and these transitive roles
pub record HasRoles (theory : Theory) (Leads : ℕ → ℕ → Type 0) (IsTransitive : ℕ → Type 0) : Type 0 where
  pub below_is : (r s : ℕ) → (theory.below r s ≡ true) ↔ IsBelow Leads r s
  pub transitive_is : (t : ℕ) → (theory.is_transitive t ≡ true) ↔ IsTransitive t
