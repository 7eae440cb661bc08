-- What the tests of a role box say, by what its table keeps.
use Rattle.std.proofs.Common.{◌≡◌, ℕ, zero, suc, ◌<◌, ◌≤◌, ◌&&◌, not, eqb, Bool, true, List, [], length, get_or, refl}
use Rattle.std.proofs.Common.{sym, ◌∙◌, subst, arith, inl, inr, eq-eqb}
use Rattle.std.specs.Prelude.{◌↔◌}
use Rattle.std.proofs.lemmas.Bool.{or_cases, or_left, or_right, and_parts, and_from, cases_eq, eqb-true}
use Rattle.std.proofs.lemmas.Bool.{false_from_ne_true, not_from_false, not-true}
use Rattle.calculus_specs.specs.Roles.{IsBelow, IsSimple, itself, by_step}
use Rattle.role_box.specs.declared.role_axiom.RoleAxiom.{RoleAxiom}
use Rattle.role_box.specs.Steps.{Leads, is_transitive, IsTransitive}
use Rattle.role_box.specs.Paths.{has_path, same_or_leads, role_limit, is_below}
use Rattle.role_box.specs.Closure.{any_below, IsClosed}
use Rattle.role_box.specs.Rows.{has, linked}
use Rattle.role_box.proofs.Rows.{linked_row}
use Rattle.shq_terms.proofs.Bools.{same_truth}
use Rattle.role_box.proofs.Limits.{leads_within, transitive_within, test_is_below, is_below-bounded}

-- from a role that no axiom names no chain leads to another role
outside_chain : (axioms : List RoleAxiom) (r s : ℕ) → role_limit axioms ≤ r → IsBelow (Leads axioms) r s → r ≡ s
outside_chain axioms r s le (itself x) = refl
outside_chain axioms r s le (by_step x y z b e) =
    let same = outside_chain axioms x y le b in
    let within = leads_within axioms y z e in
    absurd (omega arith)

pub below_outside : (axioms : List RoleAxiom) (r s : ℕ) → role_limit axioms ≤ r → is_below axioms r s ≡ eqb r s
below_outside axioms r s le =
    same_truth (is_below axioms r s) (eqb r s)
    (λ h. eq-eqb r s (outside_chain axioms r s le ((test_is_below axioms r s).0 h)))
    (λ h. (test_is_below axioms r s).1 (subst (λ (x : ℕ). IsBelow (Leads axioms) r x) (eqb-true r s h) (itself r)))

-- an answer of the test says whether there is a chain
pub chain_from_test : (axioms : List RoleAxiom) (r s : ℕ) (answer : Bool) → answer ≡ is_below axioms r s
    → (answer ≡ true) ↔ IsBelow (Leads axioms) r s
chain_from_test axioms r s answer e =
    (λ h. (test_is_below axioms r s).0 (sym e ∙ h), λ b. e ∙ (test_is_below axioms r s).1 b)

-- ---- simple roles

any_below_from : (n : ℕ) (p : ℕ → Bool) (t : ℕ) → t < n → p t ≡ true → any_below n p ≡ true
any_below_from zero p t lt h = absurd (omega arith)
any_below_from (suc n) p t lt h =
    elim (cases_eq t n) [
      | inl e ↦ or_right (any_below n p) (p n) (subst (λ (x : ℕ). p x ≡ true) e h)
      | inr ne ↦ or_left (any_below n p) (p n) (any_below_from n p t (omega arith) h)
    ]

any_below_witness : (n : ℕ) (p : ℕ → Bool) → any_below n p ≡ true → (t : ℕ) × (p t ≡ true)
any_below_witness zero p h = cc
any_below_witness (suc n) p h =
    elim (or_cases (any_below n p) (p n) h) [ inl a ↦ any_below_witness n p a | inr b ↦ (n, b) ]

pub simple_from_test : (axioms : List RoleAxiom) (n s : ℕ) (complex : Bool) → role_limit axioms ≤ n
    → complex ≡ any_below n (λ t. is_transitive axioms t && is_below axioms t s)
    → (not complex ≡ true) ↔ IsSimple (Leads axioms) (IsTransitive axioms) s
simple_from_test axioms n s complex le e = (
  λ h t transitive b.
      (let is_false = not-true complex h in
      let test = λ (x : ℕ). is_transitive axioms x && is_below axioms x s in
      let within = transitive_within axioms t transitive in
      let found : any_below n test ≡ true =
      any_below_from n test t (omega arith)
      (and_from (is_transitive axioms t) (is_below axioms t s) transitive ((test_is_below axioms t s).1 b)) in
      cc),
  λ simple. not_from_false complex (false_from_ne_true complex (λ h.
      (let w = any_below_witness n (λ t. is_transitive axioms t && is_below axioms t s) (sym e ∙ h) in
      let parts = and_parts (is_transitive axioms w.0) (is_below axioms w.0 s) w.1 in
      simple w.0 parts.0 ((test_is_below axioms w.0 s).0 parts.1)))),
)

-- ---- a row of the table

pub below_listed : (axioms : List RoleAxiom) (rows read : List (List ℕ)) (lower upper : ℕ) (row : List ℕ)
    (answer : Bool)
    → read ≡ rows → lower < length read
    → row ≡ get_or read lower [] → answer ≡ has row upper
    → ((r s : ℕ) → r < length rows → linked rows r s ≡ is_below axioms r s) → answer ≡ is_below axioms lower upper
below_listed axioms rows read lower upper row answer same lt got e table =
    let within : lower < length rows = subst (λ (rs : List (List ℕ)). lower < length rs) same lt in
    let got' : get_or rows lower [] ≡ row = subst (λ (rs : List (List ℕ)). get_or rs lower [] ≡ row) same (sym got) in
    let bit : linked rows lower upper ≡ has row upper = linked_row rows lower upper row got' in
    let closed = table lower upper within in
    cc

-- ---- a box that is made

any_below-same : (n : ℕ) (p q : ℕ → Bool) → ((t : ℕ) → t < n → p t ≡ q t) → any_below n p ≡ any_below n q
any_below-same zero p q same = refl
any_below-same (suc n) p q same =
    let before = any_below-same n p q (λ t lt. same t (omega arith)) in
    let last = same n (omega arith) in
    cc

pub made_closed : (axioms : List RoleAxiom) (rows : List (List ℕ)) (transitive complex : List ℕ) (count : ℕ)
    → count ≤ 1000 → role_limit axioms ≤ count → length rows ≡ count
    → ((r s : ℕ) → r < count → linked rows r s ≡ has_path (same_or_leads axioms) count r s)
    → ((t : ℕ) → has transitive t ≡ is_transitive axioms t)
    → ((s : ℕ) → has complex s ≡ any_below (length rows) (λ t. has transitive t && linked rows t s))
    → IsClosed axioms rows transitive complex
made_closed axioms rows transitive complex count small listed len paths marks above =
    let table : (r s : ℕ) → r < length rows → linked rows r s ≡ is_below axioms r s =
    λ r s lt. (paths r s (omega arith) ∙ sym (is_below-bounded axioms count listed r s)) in
    record {
      small = omega arith;
      listed = omega arith;
      rows_are = table;
      transitive_are = marks;
      complex_are = λ s.
          above s
          ∙ any_below-same (length rows) (λ t. has transitive t && linked rows t s)
          (λ t. is_transitive axioms t && is_below axioms t s)
          (λ t lt. (let a = marks t in let b = table t s lt in cc));
    }
