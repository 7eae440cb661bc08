-- The conjuncts that stay beside positions of names, and all ways to leave out names, are the same.
use Rattle.std.proofs.Common.{◌≡◌, ℕ, zero, suc, ◌+◌, ◌≤◌, ◌||◌, eqb, ltb, cond, Bool, true, false, List, [], ◌∷◌, map}
use Rattle.std.proofs.Common.{get_or, refl, ap, ◌∙◌, sym, subst, arith, inl, inr, eq-eqb, lt-ltb}
use Rattle.std.specs.List.{list_any, list_all}
use Rattle.std.proofs.lemmas.Bool.{cases_Bool, or_cases, or_left, and_parts, and_from, eqb-true, ne_eqb}
use Rattle.std.proofs.lemmas.Bool.{false_from_ne_true}
use Rattle.shq_terms.specs.Concept.{Concept, top}
use Rattle.calculus_specs.specs.Rows.{is_among, others_from, conjunct_at, is_name, is_ascending, are_name_positions}
use Rattle.search_laws.specs.ComputedClosure.{others_of}
use Rattle.search_laws.proofs.Paths.{all_pass}
use Rattle.search_laws.proofs.Within.{Among, among_left, among_right, among_either, among_map, map_among}

next : (a i : ℕ) → a + 1 + i ≡ a + suc i
next a i = omega arith

none : (a : ℕ) → a ≡ a + 0
none a = omega arith

one : (i : ℕ) → 1 + i ≡ suc i
one i = omega arith

-- ---- each choice of positions is one of the ways

others_in : (first : ℕ) (positions : List ℕ) (cs : List Concept)
    → ((i : ℕ) → is_among positions (first + i) ≡ true → is_name (get_or cs i top) ≡ true)
    → Among (others_from first positions cs) (others_of cs)
others_in first positions [] named = inl refl
others_in first positions (c ∷ cs) named =
    let rest =
    others_in (first + 1) positions cs
    (λ i h. named (suc i) (subst (λ (k : ℕ). is_among positions k ≡ true) (next first i) h)) in
    elim (cases_Bool (is_among positions first)) [
      | inl out ↦
          let name' : is_name c ≡ true = named 0 (subst (λ (k : ℕ). is_among positions k ≡ true) (none first) out) in
          rw (out, name')
          (among_right (others_from (first + 1) positions cs) (map (λ ds. c ∷ ds) (others_of cs)) (others_of cs) rest)
      | inr stays ↦
          let more =
          among_map (λ (ds : List Concept). c ∷ ds) (others_from (first + 1) positions cs) (others_of cs) rest in
          rw stays (elim (cases_Bool (is_name c)) [
            | inl name' ↦
                rw name' (among_left (c ∷ others_from (first + 1) positions cs) (map (λ ds. c ∷ ds) (others_of cs))
                (others_of cs) more)
            | inr other ↦ rw other more
          ])
    ]

name_at : (cs : List Concept) (positions : List ℕ) (k : ℕ) → list_all (λ i. is_name (conjunct_at cs i)) positions ≡ true
    → is_among positions k ≡ true → is_name (conjunct_at cs k) ≡ true
name_at cs [] k all h = cc
name_at cs (p ∷ ps) k all h =
    let t = and_parts (is_name (conjunct_at cs p)) (list_all (λ i. is_name (conjunct_at cs i)) ps) all in
    elim (or_cases (eqb p k) (list_any (λ q. eqb q k) ps) h) [
      | inl here ↦ subst (λ (q : ℕ). is_name (conjunct_at cs q) ≡ true) (eqb-true p k here) t.0
      | inr later ↦ name_at cs ps k t.1 later
    ]

pub positions_in : (cs : List Concept) (positions : List ℕ) → are_name_positions cs positions ≡ true
    → Among (others_from 1 positions cs) (others_of cs)
positions_in cs positions h =
    let t = and_parts (is_ascending positions) (list_all (λ i. is_name (conjunct_at cs i)) positions) h in
    others_in 1 positions cs
    (λ i m. name_at cs positions (suc i) t.1 (subst (λ (k : ℕ). is_among positions k ≡ true) (one i) m))

-- ---- each way is that of a choice of positions

others_same : (a : ℕ) (ps qs : List ℕ) (cs : List Concept) → ((k : ℕ) → a ≤ k → is_among ps k ≡ is_among qs k)
    → others_from a ps cs ≡ others_from a qs cs
others_same a ps qs [] same = refl
others_same a ps qs (c ∷ cs) same =
    let rest = others_same (a + 1) ps qs cs (λ k le. same k (omega arith)) in
    rw (same a (omega arith))
    (elim (is_among qs a) as
    (λ b. cond b (others_from (a + 1) ps cs) (c ∷ others_from (a + 1) ps cs)
    ≡ cond b (others_from (a + 1) qs cs) (c ∷ others_from (a + 1) qs cs)) [
      | true ↦ rest
      | false ↦ ap (λ (ds : List Concept). c ∷ ds) rest
    ])

record Chosen (first : ℕ) (cs others : List Concept) : Type 0 where
  positions : List ℕ
  ascending : is_ascending positions ≡ true
  from : (k : ℕ) → is_among positions k ≡ true → first ≤ k
  named : (i : ℕ) → is_among positions (first + i) ≡ true → is_name (get_or cs i top) ≡ true
  left : others_from first positions cs ≡ others

ascending_more : (first : ℕ) (ps : List ℕ) → is_ascending ps ≡ true → ((k : ℕ) → is_among ps k ≡ true → first + 1 ≤ k)
    → is_ascending (first ∷ ps) ≡ true
ascending_more first [] h from = refl
ascending_more first (p ∷ ps) h from =
    and_from (ltb first p) (is_ascending (p ∷ ps))
    (lt-ltb first p (omega (arith, from p (or_left (eqb p p) (list_any (λ q. eqb q p) ps) (eq-eqb p p refl))))) h

drop_first : (first : ℕ) (c : Concept) (cs others : List Concept) → is_name c ≡ true → Chosen (first + 1) cs others
    → Chosen first (c ∷ cs) others
drop_first first c cs others name' r = record {
  positions = first ∷ r.positions;
  ascending = ascending_more first r.positions r.ascending r.from;
  from = λ k h. elim (or_cases (eqb first k) (is_among r.positions k) h) [
    | inl here ↦ omega (arith, eqb-true first k here)
    | inr later ↦ omega (arith, r.from k later)
  ];
  named = at;
  left =
      ap (λ (b : Bool). cond b (others_from (first + 1) (first ∷ r.positions) cs)
      (c ∷ others_from (first + 1) (first ∷ r.positions) cs))
      (or_left (eqb first first) (is_among r.positions first) (eq-eqb first first refl))
      ∙ others_same (first + 1) (first ∷ r.positions) r.positions cs
      (λ k le. ap (λ (b : Bool). b || is_among r.positions k) (ne_eqb first k (λ e. absurd (omega (arith, e, le)))))
      ∙ r.left;
}
  where
    at : (i : ℕ) → is_among (first ∷ r.positions) (first + i) ≡ true → is_name (get_or (c ∷ cs) i top) ≡ true
    at zero h = name'
    at (suc i) h = elim (or_cases (eqb first (first + suc i)) (is_among r.positions (first + suc i)) h) [
      | inl here ↦ absurd (omega (arith, eqb-true first (first + suc i) here))
      | inr later ↦ r.named i (subst (λ (k : ℕ). is_among r.positions k ≡ true) (sym (next first i)) later)
    ]

keep_first : (first : ℕ) (c : Concept) (cs others : List Concept) → Chosen (first + 1) cs others
    → Chosen first (c ∷ cs) (c ∷ others)
keep_first first c cs others r = record {
  positions = r.positions;
  ascending = r.ascending;
  from = λ k h. omega (arith, r.from k h);
  named = at;
  left =
      ap (λ (b : Bool). cond b (others_from (first + 1) r.positions cs) (c ∷ others_from (first + 1) r.positions cs))
      (false_from_ne_true (is_among r.positions first) (λ h. absurd (omega (arith, r.from first h))))
      ∙ ap (λ (ds : List Concept). c ∷ ds) r.left;
}
  where
    at : (i : ℕ) → is_among r.positions (first + i) ≡ true → is_name (get_or (c ∷ cs) i top) ≡ true
    at zero h = absurd (omega (arith, r.from (first + 0) h))
    at (suc i) h = r.named i (subst (λ (k : ℕ). is_among r.positions k ≡ true) (sym (next first i)) h)

keep : (first : ℕ) (c : Concept) (cs others : List Concept)
    → ((ds : List Concept) → Among ds (others_of cs) → Chosen (first + 1) cs ds)
    → Among others (map (λ ds. c ∷ ds) (others_of cs)) → Chosen first (c ∷ cs) others
keep first c cs others rest k =
    let m = map_among (λ (ds : List Concept). c ∷ ds) others (others_of cs) k in
    subst (Chosen first (c ∷ cs)) (sym m.2) (keep_first first c cs m.0 (rest m.0 m.1))

chosen : (first : ℕ) (cs others : List Concept) → Among others (others_of cs) → Chosen first cs others
chosen first [] others h = elim h [
  | inl e ↦ record { positions = []; ascending = refl; from = λ k g. cc; named = λ i g. cc; left = sym e }
  | inr later ↦ absurd later
]
chosen first (c ∷ cs) others h = elim (cases_Bool (is_name c)) [
  | inl name' ↦ elim (among_either others (map (λ ds. c ∷ ds) (others_of cs)) (others_of cs) (rw name' at h)) [
    | inl kept ↦ keep first c cs others (chosen (first + 1) cs) kept
    | inr dropped ↦ drop_first first c cs others name' (chosen (first + 1) cs others dropped)
  ]
  | inr other ↦ keep first c cs others (chosen (first + 1) cs) (rw other at h)
]

pub record Positions (cs others : List Concept) : Type 0 where
  pub positions : List ℕ
  pub are_names : are_name_positions cs positions ≡ true
  pub left : others_from 1 positions cs ≡ others

pub positions_of : (cs others : List Concept) → Among others (others_of cs) → Positions cs others
positions_of cs others h =
    let r = chosen 1 cs others h in
    record {
      positions = r.positions;
      are_names =
          and_from (is_ascending r.positions) (list_all (λ i. is_name (conjunct_at cs i)) r.positions) r.ascending
          (all_pass (λ i. is_name (conjunct_at cs i)) r.positions (at r));
      left = r.left;
    }
  where
    at : (r : Chosen 1 cs others) (k : ℕ) → is_among r.positions k ≡ true → is_name (conjunct_at cs k) ≡ true
    at r zero m = absurd (omega (arith, r.from 0 m))
    at r (suc i) m = r.named i (subst (λ (k : ℕ). is_among r.positions k ≡ true) (sym (one i)) m)
