-- What the table of a role box keeps.
use Rattle.std.specs.Prelude.{◌≡◌, ℕ, zero, suc, ◌-◌, ◌<◌, ◌≤◌, ◌&&◌, ◌||◌, ◌↔◌, Bool, false, List, length, filter}
use Rattle.std.specs.List.{Contains, range_with_len}
use Rattle.role_box.specs.declared.role_axiom.RoleAxiom.{RoleAxiom}
use Rattle.role_box.specs.Rows.{has, linked}
use Rattle.calculus_specs.specs.Roles.{IsBelow}
use Rattle.role_box.specs.Steps.{Leads, is_transitive, IsTransitive}
use Rattle.role_box.specs.Paths.{role_limit, is_below}

-- some number below n passes the test
abbrev pub any_below : ℕ → (ℕ → Bool) → Bool
any_below zero p = false
any_below (suc n) p = any_below n p || p n

-- the row of each role has the roles above it; one set has the transitive roles, another the roles above these
pub record IsClosed (axioms : List RoleAxiom) (rows : List (List ℕ)) (transitive complex : List ℕ) : Type 0 where
  pub small : length rows ≤ 1000
  pub listed : role_limit axioms ≤ length rows
  pub rows_are : (r s : ℕ) → r < length rows → linked rows r s ≡ is_below axioms r s
  pub transitive_are : (t : ℕ) → has transitive t ≡ is_transitive axioms t
  pub complex_are : (s : ℕ)
      → has complex s ≡ any_below (length rows) (λ t. is_transitive axioms t && is_below axioms t s)

-- ---- the transitive roles between two roles

-- the list has the transitive roles that are above the one role and below the other
abbrev pub AreBetween : List RoleAxiom → ℕ → ℕ → List ℕ → Type 0
AreBetween axioms lower upper roles = (t : ℕ)
    → Contains roles t ↔ (IsTransitive axioms t × IsBelow (Leads axioms) lower t × IsBelow (Leads axioms) t upper)

-- a transitive role stands between two others: the lower one is below it, and it is below the upper one
abbrev pub is_between : List RoleAxiom → ℕ → ℕ → ℕ → Bool
is_between axioms lower upper t = is_transitive axioms t && is_below axioms lower t && is_below axioms t upper

-- those between two roles, among the numbers from a first one up to an end
abbrev pub between_from : List RoleAxiom → ℕ → ℕ → ℕ → ℕ → List ℕ
between_from axioms lower upper first end = filter (is_between axioms lower upper) (range_with_len first (end - first))
