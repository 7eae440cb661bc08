-- A part is met exactly where a row of it is.
use Rattle.std.proofs.Common.{◌≡◌, ℕ, zero, suc, ◌+◌, ◌<◌, ◌&&◌, ◌||◌, Bool, true, false, not, cond, eqb, leb, List, []}
use Rattle.std.proofs.Common.{◌∷◌, ◌++◌, map, length, get_or, Option, Some, None, refl, ap, sym, subst, ◌∙◌, arith, inl}
use Rattle.std.proofs.Common.{inr}
use Rattle.std.specs.Prelude.{IsSome}
use Rattle.std.specs.List.{list_all, list_any}
use Rattle.std.proofs.lemmas.Bool.{cases_Bool, cases_eq, and_parts, and_from, or_cases, or_left, or_right, eqb-true}
use Rattle.std.proofs.Math.Bool.{or-false}
use Rattle.shq_terms.proofs.Bools.{same_truth}
use Rattle.shq_terms.specs.Concept.{Concept, top, some_of, parts_of}
use Rattle.calculus_specs.specs.Normal.{negated_form}
use Rattle.calculus_specs.specs.Rows.{Part, inclusion, range, conjunct_at, is_among, others_from, row_concept}
use Rattle.calculus_specs.specs.Rows.{are_name_positions, is_some_of, row_of, Trigger}
use Rattle.calculus_specs.specs.Rows.Trigger.{always, names, edge, end_of}
use Rattle.shq_terms.specs.declared.axioms.Axiom.{Axiom}
use Rattle.row_cache.specs.Below.{all_below, count_below}
use Rattle.row_cache.specs.Truth.{Interpretation, implies, holds, hold_any, out_degree, meets}
use Rattle.row_cache.proofs.Implied.{implied, implies_from}
use Rattle.row_cache.specs.Parts.{axiom_parts}
use Rattle.row_cache.specs.Meeting.{meets_part, meets_parts, is_role_axiom, is_assertion}
use Rattle.row_cache.proofs.Truth.{or_holds, negated_truth, some_is_some, some_cond}
use Rattle.row_cache.proofs.Meeting.{axiom_is_parts}
use Rattle.row_cache.proofs.Below.{all_at, all_from}
use Rattle.row_cache.proofs.Models.{found}
use Rattle.row_cache.proofs.Rows.{row_holds}
use Rattle.absorption.specs.Triggers.{trigger_for, fixed_concept}
use Rattle.absorption.specs.Truth.{in_degree, is_triggered, meets_row, meets_row_if}
use Rattle.absorption.proofs.Positions.{part_has_row}

-- ---- counts of at least one

one_more : (n : ℕ) (p : ℕ → Bool) → leb 1 (count_below (suc n) p) ≡ (leb 1 (count_below n p) || p n)
one_more n p =
    some_is_some (count_below n p) (cond (p n) 1 0) ∙ ap (λ (b : Bool). leb 1 (count_below n p) || b) (some_cond (p n))

counted : (n : ℕ) (p : ℕ → Bool) (y : ℕ) → y < n → p y ≡ true → leb 1 (count_below n p) ≡ true
counted zero p y lt h = absurd (omega arith)
counted (suc n) p y lt h =
    one_more n p
    ∙ elim (cases_eq y n) [
      | inl e ↦ or_right (leb 1 (count_below n p)) (p n) (subst (λ (k : ℕ). p k ≡ true) e h)
      | inr ne ↦ or_left (leb 1 (count_below n p)) (p n) (counted n p y (grind arith) h)
    ]

record Counted (n : ℕ) (p : ℕ → Bool) : Type 0 where
  it : ℕ
  below : it < n
  passes : p it ≡ true

witness : (n : ℕ) (p : ℕ → Bool) → leb 1 (count_below n p) ≡ true → Counted n p
witness zero p h = cc
witness (suc n) p h = elim (or_cases (leb 1 (count_below n p)) (p n) (sym (one_more n p) ∙ h)) [
  | inl earlier ↦
      let w = witness n p earlier in record { it = w.it; below = (let lt = w.below in omega arith); passes = w.passes }
  | inr here ↦ record { it = n; below = omega arith; passes = here }
]

fewer : (n : ℕ) (p q : ℕ → Bool) → leb 1 (count_below n (λ y. p y && q y)) ≡ true → leb 1 (count_below n p) ≡ true
fewer n p q h =
    let w = witness n (λ y. p y && q y) h in counted n p w.it w.below (and_parts (p w.it) (q w.it) w.passes).0

-- ---- what a row's concept says

module _ (i : Interpretation) (x : ℕ) (d : Concept) (ps : List ℕ) where
  abbrev one_of : List Concept → Bool
  one_of cs = hold_any i (parts_of (map negated_form cs ++ d ∷ [])) x

  -- one that is in all conjuncts and in the row's concept is in the right side
  one_taken : (cs : List Concept) (first : ℕ) → one_of (others_from first ps cs) ≡ true
      → list_all (λ c. holds i c x) cs ≡ true → holds i d x ≡ true
  one_taken [] first h all = sym (or-false (holds i d x)) ∙ h
  one_taken (c ∷ cs) first h all =
      let both = and_parts (holds i c x) (list_all (λ e. holds i e x) cs) all in
      elim (cases_Bool (is_among ps first)) [
        | inl among ↦
            one_taken cs (first + 1)
            (sym (ap (λ (b : Bool). one_of (cond b (others_from (first + 1) ps cs) (c ∷ others_from (first + 1) ps cs)))
            among)
            ∙ h)
            both.1
        | inr other ↦
            let either : (holds i (negated_form c) x || one_of (others_from (first + 1) ps cs)) ≡ true =
            sym (ap (λ (b : Bool). one_of (cond b (others_from (first + 1) ps cs) (c ∷ others_from (first + 1) ps cs)))
            other)
            ∙ h in
            let not_there : holds i (negated_form c) x ≡ false = negated_truth i c x ∙ ap not both.0 in
            one_taken cs (first + 1)
            (sym (ap (λ (b : Bool). b || one_of (others_from (first + 1) ps cs)) not_there) ∙ either) both.1
      ]

  taken : (cs : List Concept) → holds i (row_concept cs d ps) x ≡ true → list_all (λ c. holds i c x) cs ≡ true
      → holds i d x ≡ true
  taken cs h all = one_taken cs 1 (sym (or_holds i x (map negated_form (others_from 1 ps cs) ++ d ∷ [])) ∙ h) all

-- ---- inclusions

chosen : {A : Type 0} (b : Bool) (r c : A) → cond b (Some r) None ≡ Some c → r ≡ c
chosen true r c e = cc
chosen false r c e = cc

passed : {A : Type 0} (b : Bool) (r c : A) → cond b (Some r) None ≡ Some c → b ≡ true
passed true r c e = refl
passed false r c e = cc

module _ (i : Interpretation) (cs : List Concept) (d : Concept) where
  abbrev in_all : ℕ → Bool
  in_all x = list_all (λ c. holds i c x) cs

  -- ---- from the part to the row

  given : (met : meets_part i (inclusion cs d) ≡ true) (ps : List ℕ) (x : ℕ) → x < i.size
      → ((j : ℕ) → j < length cs → is_among ps (1 + j) ≡ true → holds i (get_or cs j top) x ≡ true)
      → holds i (row_concept cs d ps) x ≡ true
  given met ps x lt at =
      row_holds i x d ps cs at
      (λ all. implied (in_all x) (holds i d x) (all_at i.size (λ v. implies (in_all v) (holds i d v)) x met lt) all)

  given_all : (met : meets_part i (inclusion cs d) ≡ true) (t : Trigger)
      → all_below i.size (λ x. implies (is_triggered i (inclusion cs d) t x) (holds i (row_concept cs d []) x)) ≡ true
  given_all met t =
      all_from i.size (λ x. implies (is_triggered i (inclusion cs d) t x) (holds i (row_concept cs d []) x))
      (λ x lt. implies_from (is_triggered i (inclusion cs d) t x) (holds i (row_concept cs d []) x)
      (λ h. given met [] x lt (λ j less among. cc)))

  given_names : (met : meets_part i (inclusion cs d) ≡ true) (ps : List ℕ)
      → meets_row i (inclusion cs d) (names ps) (row_concept cs d ps) ≡ true
  given_names met ps =
      all_from i.size (λ x. implies (is_triggered i (inclusion cs d) (names ps) x) (holds i (row_concept cs d ps) x))
      (λ x lt. implies_from (is_triggered i (inclusion cs d) (names ps) x) (holds i (row_concept cs d ps) x)
      (λ h. given met ps x lt
      (λ j less among.
      let f = found (λ n. eqb n (1 + j)) (λ n. holds i (conjunct_at cs n) x) ps among h in
      let e : f.it ≡ suc j = omega (arith, eqb-true f.it (1 + j) f.first) in
      subst (λ (n : ℕ). holds i (conjunct_at cs n) x ≡ true) e f.second)))

  -- ---- from the row to the part

  at_place : (es : List Concept) (x j : ℕ) → list_all (λ c. holds i c x) es ≡ true → holds i (get_or es j top) x ≡ true
  at_place [] x j all = refl
  at_place (e ∷ es) x zero all = (and_parts (holds i e x) (list_all (λ c. holds i c x) es) all).0
  at_place (e ∷ es) x (suc j) all = at_place es x j (and_parts (holds i e x) (list_all (λ c. holds i c x) es) all).1

  at_position : (x p : ℕ) → in_all x ≡ true → holds i (conjunct_at cs p) x ≡ true
  at_position x zero all = refl
  at_position x (suc j) all = at_place cs x j all

  at_positions : (x : ℕ) (ps : List ℕ) → in_all x ≡ true → list_all (λ p. holds i (conjunct_at cs p) x) ps ≡ true
  at_positions x [] all = refl
  at_positions x (p ∷ ps) all =
      and_from (holds i (conjunct_at cs p) x) (list_all (λ k. holds i (conjunct_at cs k) x) ps) (at_position x p all)
      (at_positions x ps all)

  begins : (s x : ℕ) (c : Concept) → is_some_of s c ≡ true → holds i c x ≡ true → leb 1 (out_degree i s x) ≡ true
  begins s x (some_of r e) is h =
      fewer i.size (λ y. i.in_role s x y) (holds i e)
      (subst (λ (q : ℕ). leb 1 (count_below i.size (λ y. i.in_role q x y && holds i e y)) ≡ true) (eqb-true r s is) h)
  begins s x _ is h = cc

  -- an element that is in all conjuncts triggers the row
  triggered : (t : Trigger) (c : Concept) → row_of (inclusion cs d) t ≡ Some c → (x : ℕ) → in_all x ≡ true
      → is_triggered i (inclusion cs d) t x ≡ true
  triggered always c e x all = refl
  triggered (names ps) c e x all = at_positions x ps all
  triggered (edge s) c e x all =
      let f =
      found (is_some_of s) (λ k. holds i k x) cs (passed (list_any (is_some_of s) cs) (row_concept cs d []) c e) all in
      begins s x f.it f.first f.second
  triggered (end_of s) c e x all = cc

  back : (t : Trigger) (c : Concept) (ps : List ℕ) → row_of (inclusion cs d) t ≡ Some c → c ≡ row_concept cs d ps
      → meets_row i (inclusion cs d) t c ≡ true → meets_part i (inclusion cs d) ≡ true
  back t c ps e same met = all_from i.size (λ x. implies (in_all x) (holds i d x))
      (λ x lt. implies_from (in_all x) (holds i d x)
      (λ all. taken i x d ps cs
      (subst (λ (k : Concept). holds i k x ≡ true) same
      (implied (is_triggered i (inclusion cs d) t x) (holds i c x)
      (all_at i.size (λ v. implies (is_triggered i (inclusion cs d) t v) (holds i c v)) x met lt)
      (triggered t c e x all)))
      all))

  pub inclusion_met : (t : Trigger) (c : Concept) → row_of (inclusion cs d) t ≡ Some c
      → meets_part i (inclusion cs d) ≡ meets_row i (inclusion cs d) t c
  inclusion_met always c e =
      let same : row_concept cs d [] ≡ c = cc in
      same_truth (meets_part i (inclusion cs d)) (meets_row i (inclusion cs d) always c)
      (λ met. subst (λ (k : Concept). meets_row i (inclusion cs d) always k ≡ true) same (given_all met always))
      (back always c [] e (sym same))
  inclusion_met (names ps) c e =
      let same : row_concept cs d ps ≡ c = chosen (are_name_positions cs ps) (row_concept cs d ps) c e in
      same_truth (meets_part i (inclusion cs d)) (meets_row i (inclusion cs d) (names ps) c)
      (λ met. subst (λ (k : Concept). meets_row i (inclusion cs d) (names ps) k ≡ true) same (given_names met ps))
      (back (names ps) c ps e (sym same))
  inclusion_met (edge s) c e =
      let same : row_concept cs d [] ≡ c = chosen (list_any (is_some_of s) cs) (row_concept cs d []) c e in
      same_truth (meets_part i (inclusion cs d)) (meets_row i (inclusion cs d) (edge s) c)
      (λ met. subst (λ (k : Concept). meets_row i (inclusion cs d) (edge s) k ≡ true) same (given_all met (edge s)))
      (back (edge s) c [] e (sym same))
  inclusion_met (end_of s) c e = cc

-- ---- ranges

module _ (i : Interpretation) (r : ℕ) (d : Concept) where
  abbrev from_each : ℕ → Bool
  from_each x = all_below i.size (λ y. implies (i.in_role r x y) (holds i d y))

  range_given : meets_part i (range r d) ≡ true → meets_row i (range r d) (end_of r) d ≡ true
  range_given met = all_from i.size (λ y. implies (leb 1 (in_degree i r y)) (holds i d y))
      (λ y lt. implies_from (leb 1 (in_degree i r y)) (holds i d y)
      (λ h.
      let w = witness i.size (λ z. i.in_role r z y) h in
      implied (i.in_role r w.it y) (holds i d y)
      (all_at i.size (λ v. implies (i.in_role r w.it v) (holds i d v)) y (all_at i.size from_each w.it met w.below) lt)
      w.passes))

  range_back : meets_row i (range r d) (end_of r) d ≡ true → meets_part i (range r d) ≡ true
  range_back met = all_from i.size from_each
      (λ x lt. all_from i.size (λ y. implies (i.in_role r x y) (holds i d y))
      (λ y mt. implies_from (i.in_role r x y) (holds i d y)
      (λ h. implied (leb 1 (in_degree i r y)) (holds i d y)
      (all_at i.size (λ v. implies (leb 1 (in_degree i r v)) (holds i d v)) y met mt)
      (counted i.size (λ z. i.in_role r z y) x lt h))))

  pub range_met : (t : Trigger) (c : Concept) → row_of (range r d) t ≡ Some c
      → meets_part i (range r d) ≡ meets_row i (range r d) t c
  range_met always c e = cc
  range_met (names ps) c e = cc
  range_met (edge s) c e = cc
  range_met (end_of s) c e =
      let same : d ≡ c = chosen (eqb s r) d c e in
      let role : s ≡ r = eqb-true s r (passed (eqb s r) d c e) in
      same_truth (meets_part i (range r d)) (meets_row i (range r d) (end_of r) d) range_given range_back
      ∙ (λ j. meets_row i (range r d) (end_of (sym role j)) (same j))

-- ---- any part

pub part_is_row : (i : Interpretation) (q : Part) (t : Trigger) (c : Concept) → row_of q t ≡ Some c
    → meets_part i q ≡ meets_row i q t c
part_is_row i (inclusion cs d) t c e = inclusion_met i cs d t c e
part_is_row i (range r d) t c e = range_met i r d t c e

fixed_row : (i : Interpretation) (q : Part) (o : Option Concept) → fixed_concept q ≡ o
    → meets_part i q ≡ meets_row_if i q (trigger_for q) o
fixed_row i q None e = let none : false ≡ true = subst (λ (o : Option Concept). IsSome o) e (part_has_row q) in cc
fixed_row i q (Some c) e = part_is_row i q (trigger_for q) c e

are_rows : (i : Interpretation) (qs : List Part)
    → meets_parts i qs ≡ list_all (λ q. meets_row_if i q (trigger_for q) (fixed_concept q)) qs
are_rows i [] = refl
are_rows i (q ∷ qs) =
    let head = fixed_row i q (fixed_concept q) refl in
    let tail = are_rows i qs in
    λ j. head j && tail j

pub axiom_is_rows : (i : Interpretation) (a : Axiom) → is_role_axiom a ≡ false → is_assertion a ≡ false
    → meets i a ≡ list_all (λ q. meets_row_if i q (trigger_for q) (fixed_concept q)) (axiom_parts a)
axiom_is_rows i a h e = axiom_is_parts i a h e ∙ are_rows i (axiom_parts a)
