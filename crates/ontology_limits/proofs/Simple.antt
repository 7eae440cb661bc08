-- A role that is simple by all axioms is simple by some of them.
use Rattle.std.proofs.Common.{◌≡◌, ℕ, zero, suc, ◌+◌, ◌-◌, ◌<◌, ◌≤◌, eqb, Bool, true, ◌⊎◌, List, [], ◌∷◌, length}
use Rattle.std.proofs.Common.{Option, None, refl, ◌∙◌, sym, subst, arith, inl, inr, eq-eqb}
use Rattle.std.specs.Prelude.{slice_get}
use Rattle.std.specs.List.{list_any, list_all, range_with_len}
use Rattle.std.proofs.lemmas.Bool.{cases_eq, cases_lt, or_cases, or_left, or_right, and_parts, and_from, eqb-true}
use Rattle.std.proofs.lemmas.Bool.{false≢true}
use Rattle.std.proofs.lemmas.List.Folds.{list_any-append}
use Rattle.role_box.specs.Numbered.{Numbered}
use Rattle.shq_nnf.specs.Roles.{IsBelow, itself, by_step}
use Rattle.role_box.specs.declared.role_axiom.RoleAxiom.{RoleAxiom}
use Rattle.role_box.specs.RoleAxioms.{role_part_at, role_axioms}
use Rattle.role_box.specs.Steps.{is_among, leads_by, Leads, is_transitive_by}
use Rattle.role_box.specs.Counted.{counted_by, counted_by_query}
use Rattle.role_box.specs.Simple.{is_simple, are_simple, counts_simple, all_role_axioms}
use Rattle.role_box.proofs.Tested.{simple_test}
use Rattle.ontology_limits.specs.Laws.{SimpleRolesStaySimple, CountsStaySimple, QueryCountsStaySimple}

in_numbers : (first n x : ℕ) → first ≤ x → x < first + n → is_among (range_with_len first n) x ≡ true
in_numbers first zero x le lt = absurd (omega arith)
in_numbers first (suc n) x le lt = elim (cases_eq first x) [
  | inl e ↦ or_left (eqb first x) (is_among (range_with_len (first + 1) n) x) (eq-eqb first x e)
  | inr ne ↦
      or_right (eqb first x) (is_among (range_with_len (first + 1) n) x)
      (in_numbers (first + 1) n x (omega arith) (omega arith))
]

got_none : (axioms : List Numbered) (n : ℕ) → length axioms ≤ n → slice_get axioms n ≡ None
got_none [] n le = refl
got_none (a ∷ axioms) zero le = absurd (omega arith)
got_none (a ∷ axioms) (suc n) le = got_none axioms n (omega arith)

-- what one of the axioms of some numbers says of roles, one of all axioms says
module _ (axioms : List Numbered) (p : RoleAxiom → Bool) where
  here_or_later : (k : ℕ) (ks : List ℕ) → list_any p (role_axioms axioms (k ∷ ks)) ≡ true
      → (list_any p (role_part_at (slice_get axioms (k - 1))) ≡ true) ⊎ (list_any p (role_axioms axioms ks) ≡ true)
  here_or_later k ks h =
      or_cases (list_any p (role_part_at (slice_get axioms (k - 1)))) (list_any p (role_axioms axioms ks))
      (sym (list_any-append p (role_part_at (slice_get axioms (k - 1))) (role_axioms axioms ks)) ∙ h)

  among : (ks : List ℕ) (k : ℕ) → is_among ks k ≡ true → list_any p (role_part_at (slice_get axioms (k - 1))) ≡ true
      → list_any p (role_axioms axioms ks) ≡ true
  among [] k m h = absurd (false≢true m)
  among (j ∷ js) k m h =
      list_any-append p (role_part_at (slice_get axioms (j - 1))) (role_axioms axioms js)
      ∙ elim (or_cases (eqb j k) (is_among js k) m) [
        | inl e ↦
            or_left (list_any p (role_part_at (slice_get axioms (j - 1)))) (list_any p (role_axioms axioms js))
            (subst (λ (n : ℕ). list_any p (role_part_at (slice_get axioms (n - 1))) ≡ true) (sym (eqb-true j k e)) h)
        | inr later ↦
            or_right (list_any p (role_part_at (slice_get axioms (j - 1)))) (list_any p (role_axioms axioms js))
            (among js k later h)
      ]

  at_one : (k : ℕ) → list_any p (role_part_at (slice_get axioms (k - 1))) ≡ true
      → list_any p (all_role_axioms axioms) ≡ true
  at_one k h = elim (cases_lt (k - 1) (length axioms)) [
    | inl lt ↦
        let e : k - 1 ≡ ((k - 1) + 1) - 1 = omega arith in
        among (range_with_len 1 (length axioms)) ((k - 1) + 1)
        (in_numbers 1 (length axioms) ((k - 1) + 1) (omega arith) (omega arith))
        (subst (λ (n : ℕ). list_any p (role_part_at (slice_get axioms n)) ≡ true) e h)
    | inr past ↦
        absurd (false≢true
        (subst (λ (o : Option Numbered). list_any p (role_part_at o) ≡ true) (got_none axioms (k - 1) past) h))
  ]

  said_by_all : (ks : List ℕ) → list_any p (role_axioms axioms ks) ≡ true → list_any p (all_role_axioms axioms) ≡ true
  said_by_all [] h = absurd (false≢true h)
  said_by_all (k ∷ ks) h = elim (here_or_later k ks h) [
    | inl here ↦ at_one k here
    | inr later ↦ said_by_all ks later
  ]

below_by_all : (axioms : List Numbered) (ks : List ℕ) (r s : ℕ) → IsBelow (Leads (role_axioms axioms ks)) r s
    → IsBelow (Leads (all_role_axioms axioms)) r s
below_by_all axioms ks r r' (itself s) = itself s
below_by_all axioms ks r r' (by_step a b c h step) =
    by_step a b c (below_by_all axioms ks a b h) (said_by_all axioms (λ x. leads_by x b c) ks step)

pub stays_simple : SimpleRolesStaySimple
stays_simple axioms ks s h =
    (simple_test (role_axioms axioms ks) s).1
    (λ t transitive below. (simple_test (all_role_axioms axioms) s).0 h t
    (said_by_all axioms (λ x. is_transitive_by x t) ks transitive) (below_by_all axioms ks t s below))

-- ---- of each role that is counted

all_kept : {X : Type 0} (p q : X → Bool) → ((x : X) → p x ≡ true → q x ≡ true) → (xs : List X) → list_all p xs ≡ true
    → list_all q xs ≡ true
all_kept p q keeps [] h = refl
all_kept p q keeps (x ∷ xs) h =
    let b = and_parts (p x) (list_all p xs) h in
    and_from (q x) (list_all q xs) (keeps x b.0) (all_kept p q keeps xs b.1)

roles_stay_simple : (axioms : List Numbered) (ks rs : List ℕ) → are_simple (all_role_axioms axioms) rs ≡ true
    → are_simple (role_axioms axioms ks) rs ≡ true
roles_stay_simple axioms ks =
    all_kept (is_simple (all_role_axioms axioms)) (is_simple (role_axioms axioms ks)) (stays_simple axioms ks)

pub counts_simple_still : CountsStaySimple
counts_simple_still o ks limit =
    all_kept (counts_simple (all_role_axioms o.axioms)) (counts_simple (role_axioms o.axioms ks))
    (λ n. roles_stay_simple o.axioms ks (counted_by n.axiom)) o.axioms limit.simple

pub query_simple_still : QueryCountsStaySimple
query_simple_still o q ks limit = roles_stay_simple o.axioms ks (counted_by_query q) limit.simple
