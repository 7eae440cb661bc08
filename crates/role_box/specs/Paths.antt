-- A test whether one role is below another: a path leads between them, and it needs no inner role from a bound on.
use Rattle.std.specs.Prelude.{ℕ, zero, suc, ◌==◌, ◌&&◌, ◌||◌, Bool, List, [], ◌∷◌, max}
use Rattle.role_box.specs.declared.role_axiom.RoleAxiom.{RoleAxiom}
use Rattle.role_box.specs.declared.role_axiom.RoleAxiom.TheVariants.{Inclusion, Equivalence, Transitivity}
use Rattle.role_box.specs.Steps.{leads}

-- whether steps lead from r to s over inner roles below k alone
abbrev pub has_path : (ℕ → ℕ → Bool) → ℕ → ℕ → ℕ → Bool
has_path step zero r s = step r s
has_path step (suc k) r s = has_path step k r s || (has_path step k r k && has_path step k k s)

-- a step of the axioms, or none
abbrev pub same_or_leads : List RoleAxiom → ℕ → ℕ → Bool
same_or_leads axioms r s = r == s || leads axioms r s

-- the least number above all these
abbrev pub limit_of : List ℕ → ℕ
limit_of [] = 0
limit_of (r ∷ rs) = max (suc r) (limit_of rs)

-- a number above all roles of the axiom
abbrev pub axiom_limit : RoleAxiom → ℕ
axiom_limit (Inclusion lower upper) = max (suc lower) (suc upper)
axiom_limit (Equivalence rs) = limit_of rs
axiom_limit (Transitivity t) = suc t

-- the least number above all roles of the axioms
abbrev pub role_limit : List RoleAxiom → ℕ
role_limit [] = 0
role_limit (a ∷ as_) = max (axiom_limit a) (role_limit as_)

-- the one role is below the other: a path of inclusions leads there
unfoldable pub is_below : List RoleAxiom → ℕ → ℕ → Bool
is_below axioms r s = has_path (same_or_leads axioms) (role_limit axioms) r s
