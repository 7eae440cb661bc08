-- Roles of axioms are below the axioms' limit, and the test of paths is that of chains.
use Rattle.std.proofs.Common.{◌≡◌, ℕ, zero, suc, ◌<◌, ◌≤◌, eqb, true, List, [], ◌∷◌, length, get_or, arith, inl, inr}
use Rattle.std.proofs.Common.{subst, sym, refl}
use Rattle.std.proofs.lemmas.Bool.{or_cases, or_left, or_right, and_parts, eqb-true, eq-eqb, false≢true}
use Rattle.calculus_specs.specs.Roles.{IsBelow, itself, by_step}
use Rattle.role_box.specs.declared.role_axiom.RoleAxiom.{RoleAxiom}
use Rattle.role_box.specs.declared.role_axiom.RoleAxiom.TheVariants.{Inclusion, Equivalence, Transitivity}
use Rattle.role_box.specs.Steps.{is_among, leads_by, leads, Leads, is_transitive_by, is_transitive}
use Rattle.role_box.specs.Paths.{has_path, same_or_leads, limit_of, axiom_limit, role_limit, is_below}
use Rattle.role_box.specs.Laws.{TestIsBelow}
use Rattle.shq_terms.proofs.Bools.{same_truth}
use Rattle.role_box.proofs.Paths.{chain_of_path, path_of_chain}

among_within : (rs : List ℕ) (r : ℕ) → is_among rs r ≡ true → r < limit_of rs
among_within [] r h = absurd (false≢true h)
among_within (x ∷ xs) r h =
    elim (or_cases (eqb x r) (is_among xs r) h) [
      | inl e ↦ (let same = eqb-true x r e in omega arith)
      | inr t ↦ (let within = among_within xs r t in omega arith)
    ]

step_within : (a : RoleAxiom) (r s : ℕ) → leads_by a r s ≡ true → r < axiom_limit a
step_within (Inclusion lower upper) r s h =
    let e = eqb-true lower r (and_parts (eqb lower r) (eqb upper s) h).0 in
    omega arith
step_within (Equivalence rs) r s h = among_within rs r (and_parts (is_among rs r) (is_among rs s) h).0
step_within (Transitivity t) r s h = absurd (false≢true h)

-- a step leads from a role below the limit
pub leads_within : (axioms : List RoleAxiom) (r s : ℕ) → leads axioms r s ≡ true → r < role_limit axioms
leads_within [] r s h = absurd (false≢true h)
leads_within (a ∷ as_) r s h =
    elim (or_cases (leads_by a r s) (leads as_ r s) h) [
      | inl e ↦ (let within = step_within a r s e in omega arith)
      | inr t ↦ (let within = leads_within as_ r s t in omega arith)
    ]

transitive_by_within : (a : RoleAxiom) (t : ℕ) → is_transitive_by a t ≡ true → t < axiom_limit a
transitive_by_within (Inclusion lower upper) t h = absurd (false≢true h)
transitive_by_within (Equivalence rs) t h = absurd (false≢true h)
transitive_by_within (Transitivity r) t h = let e = eqb-true r t h in omega arith

-- a transitive role is below the limit
pub transitive_within : (axioms : List RoleAxiom) (t : ℕ) → is_transitive axioms t ≡ true → t < role_limit axioms
transitive_within [] t h = absurd (false≢true h)
transitive_within (a ∷ as_) t h =
    elim (or_cases (is_transitive_by a t) (is_transitive as_ t) h) [
      | inl e ↦ (let within = transitive_by_within a t e in omega arith)
      | inr u ↦ (let within = transitive_within as_ t u in omega arith)
    ]

one_chain : (axioms : List RoleAxiom) (r s : ℕ) → same_or_leads axioms r s ≡ true → IsBelow (Leads axioms) r s
one_chain axioms r s h =
    elim (or_cases (eqb r s) (leads axioms r s) h) [
      | inl e ↦ subst (λ (x : ℕ). IsBelow (Leads axioms) r x) (eqb-true r s e) (itself r)
      | inr l ↦ by_step r r s (itself r) l
    ]

pub chain_of_bounded : (axioms : List RoleAxiom) (n r s : ℕ) → has_path (same_or_leads axioms) n r s ≡ true
    → IsBelow (Leads axioms) r s
chain_of_bounded axioms n r s h = chain_of_path (same_or_leads axioms) (Leads axioms) (one_chain axioms) n r s h

pub bounded_of_chain : (axioms : List RoleAxiom) (n : ℕ) → role_limit axioms ≤ n → (r s : ℕ)
    → IsBelow (Leads axioms) r s → has_path (same_or_leads axioms) n r s ≡ true
bounded_of_chain axioms n le r s b =
    path_of_chain (same_or_leads axioms) (Leads axioms) n
    (λ x. or_left (eqb x x) (leads axioms x x) (eq-eqb x x refl))
    (λ x y l. (or_right (eqb x y) (leads axioms x y) l, (let within = leads_within axioms x y l in omega arith)))
    r s b

pub test_is_below : TestIsBelow
unfolding is_below
test_is_below axioms r s =
    (chain_of_bounded axioms (role_limit axioms) r s, bounded_of_chain axioms (role_limit axioms) (omega arith) r s)

-- a bound above the limit finds the same paths
pub is_below-bounded : (axioms : List RoleAxiom) (n : ℕ) → role_limit axioms ≤ n → (r s : ℕ)
    → is_below axioms r s ≡ has_path (same_or_leads axioms) n r s
is_below-bounded axioms n le r s =
    same_truth (is_below axioms r s) (has_path (same_or_leads axioms) n r s)
    (λ h. bounded_of_chain axioms n le r s ((test_is_below axioms r s).0 h))
    (λ h. (test_is_below axioms r s).1 (chain_of_bounded axioms n r s h))

-- ---- the members are below the limits

pub get_or_limit : (rs : List ℕ) (k : ℕ) → k < length rs → get_or rs k 0 < limit_of rs
get_or_limit [] k lt = absurd (omega arith)
get_or_limit (r ∷ rs) zero lt = omega arith
get_or_limit (r ∷ rs) (suc k) lt = let within = get_or_limit rs k (omega arith) in omega arith

pub get_or_role_limit : (axioms : List RoleAxiom) (k : ℕ) (d : RoleAxiom) → k < length axioms
    → axiom_limit (get_or axioms k d) ≤ role_limit axioms
get_or_role_limit [] k d lt = absurd (omega arith)
get_or_role_limit (a ∷ as_) zero d lt = omega arith
get_or_role_limit (a ∷ as_) (suc k) d lt = let within = get_or_role_limit as_ k d (omega arith) in omega arith

pub item_limit : (axioms : List RoleAxiom) (k : ℕ) (a : RoleAxiom) → k < length axioms → a ≡ get_or axioms k a
    → axiom_limit a ≤ role_limit axioms
item_limit axioms k a lt e =
    subst (λ (x : RoleAxiom). axiom_limit x ≤ role_limit axioms) (sym e) (get_or_role_limit axioms k a lt)
