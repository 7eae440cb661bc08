-- The single steps from a role to one that is above it, and the transitive roles, by role axioms.
use Rattle.std.specs.Prelude.{◌≡◌, ℕ, ◌==◌, ◌&&◌, Bool, true, false, List}
use Rattle.std.specs.List.{list_any}
use Rattle.role_box.specs.declared.role_axiom.RoleAxiom.{RoleAxiom}
use Rattle.role_box.specs.declared.role_axiom.RoleAxiom.TheVariants.{Inclusion, Equivalence, Transitivity}

-- the role is one of these
abbrev pub is_among : List ℕ → ℕ → Bool
is_among rs r = list_any (λ x. x == r) rs

-- whether the axiom leads from r to s: it includes r in s, or makes both equivalent
abbrev pub leads_by : RoleAxiom → ℕ → ℕ → Bool
leads_by (Inclusion lower upper) r s = lower == r && upper == s
leads_by (Equivalence rs) r s = is_among rs r && is_among rs s
leads_by (Transitivity t) r s = false

-- some axiom includes the one role in the other
abbrev pub leads : List RoleAxiom → ℕ → ℕ → Bool
leads axioms r s = list_any (λ a. leads_by a r s) axioms

-- one of the axioms leads from r to s
abbrev pub Leads : List RoleAxiom → ℕ → ℕ → Type 0
Leads axioms r s = leads axioms r s ≡ true

-- whether the axiom makes t transitive
abbrev pub is_transitive_by : RoleAxiom → ℕ → Bool
is_transitive_by (Inclusion lower upper) t = false
is_transitive_by (Equivalence rs) t = false
is_transitive_by (Transitivity r) t = r == t

-- some axiom makes the role transitive
abbrev pub is_transitive : List RoleAxiom → ℕ → Bool
is_transitive axioms t = list_any (λ a. is_transitive_by a t) axioms

-- one of the axioms makes t transitive
abbrev pub IsTransitive : List RoleAxiom → ℕ → Type 0
IsTransitive axioms t = is_transitive axioms t ≡ true
