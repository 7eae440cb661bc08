-- The facts that axioms give are those of the computed list.
use Rattle.std.proofs.Common.{◌≡◌, ℕ, zero, suc, ◌-◌, ◌<◌, eqb, ltb, Bool, true, List, [], ◌∷◌, Option, Some, None}
use Rattle.std.proofs.Common.{refl, ap, ◌∙◌, sym, arith, inl, inr, eq-eqb}
use Rattle.std.specs.Prelude.{slice_get, if◌then◌else◌}
use Rattle.std.specs.List.{list_any, flat_map, filter, Contains}
use Rattle.std.proofs.lemmas.Bool.{cases_Bool, and_parts, or_cases, or_left, or_right, eqb-true, ltb-true, ne_eqb}
use Rattle.shq_terms.specs.Concept.{Concept}
use Rattle.shq_terms.specs.declared.axioms.Numbered.{Numbered}
use Rattle.shq_terms.specs.declared.axioms.Query.{Query}
use Rattle.calculus_specs.specs.Same.{is_same}
use Rattle.calculus_specs.specs.Rows.{is_among}
use Rattle.calculus_specs.specs.declared.facts.Fact.{Fact}
use Rattle.calculus_specs.specs.declared.facts.Fact.TheVariants.{Has, Edge, Apart, Same}
use Rattle.ontology_limits.specs.Facts.{facts_of, nth_fact}
use Rattle.refutation_truth.specs.Theory.{nodes_pass, listed_fact, fact_in, fact_of_axiom, question_of}
use Rattle.search_laws.specs.ComputedClosure.{given_concept, IsMember, facts_in, given_facts}
use Rattle.search_laws.proofs.Within.{Among, among_flat, flat_among, contained_among, same_among, among_same}

-- ---- members of lists

among_numbers : (ks : List ℕ) (a : ℕ) → is_among ks a ≡ true → Among a ks
among_numbers [] a h = cc
among_numbers (k ∷ ks) a h = elim (or_cases (eqb k a) (is_among ks a) h)
    [ inl here ↦ inl (sym (eqb-true k a here)) | inr later ↦ inr (among_numbers ks a later) ]

numbers_among : (ks : List ℕ) (a : ℕ) → Among a ks → is_among ks a ≡ true
numbers_among [] a h = absurd h
numbers_among (k ∷ ks) a h = elim h [
  | inl e ↦ or_left (eqb k a) (is_among ks a) (eq-eqb k a (sym e))
  | inr later ↦ or_right (eqb k a) (is_among ks a) (numbers_among ks a later)
]

among_filter : {X : Type 0} (p : X → Bool) (x : X) (xs : List X) → Among x xs → p x ≡ true → Among x (filter p xs)
among_filter p x [] h passes = absurd h
among_filter p x (y ∷ xs) h passes = elim (cases_Bool (p y)) [
  | inl stays ↦ rw stays (elim h [ inl e ↦ inl e | inr later ↦ inr (among_filter p x xs later passes) ])
  | inr out ↦ rw out (elim h [ inl e ↦ (let k = ap p e in cc) | inr later ↦ among_filter p x xs later passes ])
]

filter_among : {X : Type 0} (p : X → Bool) (x : X) (xs : List X) → Among x (filter p xs) → Among x xs × (p x ≡ true)
filter_among p x [] h = absurd h
filter_among p x (y ∷ xs) h = elim (cases_Bool (p y)) [
  | inl stays ↦ elim (rw stays at h)
      [ inl e ↦ (inl e, ap p e ∙ stays) | inr later ↦ let r = filter_among p x xs later in (inr r.0, r.1) ]
  | inr out ↦ let r = filter_among p x xs (rw out at h) in (inr r.0, r.1)
]

among_at : {X : Type 0} (xs : List X) (place : ℕ) (x : X) → slice_get xs place ≡ Some x → Among x xs
among_at [] place x h = cc
among_at (y ∷ xs) zero x h = inl (let e : x ≡ y = cc in e)
among_at (y ∷ xs) (suc place) x h = inr (among_at xs place x h)

place_of : {X : Type 0} (xs : List X) (x : X) → Among x xs → (place : ℕ) × (slice_get xs place ≡ Some x)
place_of [] x h = absurd h
place_of (y ∷ xs) x h =
    elim h [ inl e ↦ (0, ap (λ z. Some z) (sym e)) | inr later ↦ let r = place_of xs x later in (suc r.0, r.1) ]

-- ---- the facts of one axiom

-- the fact at a place, from 1, is at the place one below in the list
pub at_place : (fs : List (Fact Concept)) (place : ℕ) → nth_fact fs (suc place) ≡ slice_get fs place
at_place fs place =
    let e : suc place - 1 ≡ place = omega arith in
    ap (λ (b : Bool). if b then None else slice_get fs (suc place - 1))
    (ne_eqb (suc place) 0 (λ z. absurd (omega (arith, z))))
    ∙ ap (slice_get fs) e

none_at_zero : (fs : List (Fact Concept)) → nth_fact fs 0 ≡ None
none_at_zero fs = ap (λ (b : Bool). if b then None else slice_get fs (0 - 1)) (eq-eqb 0 0 refl)

module _ (n : ℕ) where
  abbrev are_listed : Fact Concept → Bool
  are_listed f = nodes_pass (λ x. ltb x n) f

  pub listed_split : (o : Option (Fact Concept)) (f : Fact Concept) → listed_fact n o ≡ Some f
      → (o ≡ Some f) × (are_listed f ≡ true)
  listed_split None f h = cc
  listed_split (Some g) f h = elim (cases_Bool (are_listed g)) [
    | inl good ↦ (let e : Some g ≡ Some f = rw good at h in let k : g ≡ f = cc in (e, sym (ap are_listed k) ∙ good))
    | inr bad ↦ (let e : None ≡ Some f = rw bad at h in cc)
  ]

  fact_in_list : (o : Option Numbered) (place : ℕ) (f : Fact Concept) → fact_in o place ≡ Some f → are_listed f ≡ true
      → Among f (facts_in n o)
  fact_in_list None place f h good = cc
  fact_in_list (Some a) zero f h good = (let k : None ≡ Some f = sym (none_at_zero (facts_of a.axiom)) ∙ h in cc)
  fact_in_list (Some a) (suc place) f h good =
      among_filter are_listed f (facts_of a.axiom)
      (among_at (facts_of a.axiom) place f (sym (at_place (facts_of a.axiom) place) ∙ h)) good

  list_in_fact : (o : Option Numbered) (f : Fact Concept) → Among f (facts_in n o)
      → (place : ℕ) × (fact_in o place ≡ Some f) × (are_listed f ≡ true)
  list_in_fact None f h = absurd h
  list_in_fact (Some a) f h =
      let r = filter_among are_listed f (facts_of a.axiom) h in
      let p = place_of (facts_of a.axiom) f r.0 in
      (suc p.0, at_place (facts_of a.axiom) p.0 ∙ p.1, r.1)

  some_listed : (f : Fact Concept) → are_listed f ≡ true → 0 < n
  some_listed (Has x c) h = omega (arith, ltb-true x n h)
  some_listed (Edge r x y) h = omega (arith, ltb-true x n (and_parts (ltb x n) (ltb y n) h).0)
  some_listed (Apart x y) h = omega (arith, ltb-true x n (and_parts (ltb x n) (ltb y n) h).0)
  some_listed (Same x y) h = omega (arith, ltb-true x n (and_parts (ltb x n) (ltb y n) h).0)

  -- ---- the facts of the axioms of some numbers

  module _ (axioms : List Numbered) (ks : List ℕ) where
    pub given_split : (a place : ℕ) (f : Fact Concept) → fact_of_axiom n axioms ks a place ≡ Some f
        → (is_among ks a ≡ true) × (listed_fact n (fact_in (slice_get axioms (a - 1)) place) ≡ Some f)
    given_split a place f h = elim (cases_Bool (is_among ks a)) [
      | inl here ↦ (here, rw here at h)
      | inr out ↦ (let e : None ≡ Some f = rw out at h in cc)
    ]

    given_from : (a place : ℕ) (f : Fact Concept) → is_among ks a ≡ true
        → fact_in (slice_get axioms (a - 1)) place ≡ Some f → are_listed f ≡ true
        → fact_of_axiom n axioms ks a place ≡ Some f
    given_from a place f here is good =
        ap (λ (b : Bool). if b then listed_fact n (fact_in (slice_get axioms (a - 1)) place) else None) here
        ∙ ap (listed_fact n) is ∙ ap (λ (b : Bool). if b then Some f else None) good

    given_among : (a place : ℕ) (f : Fact Concept) → fact_of_axiom n axioms ks a place ≡ Some f
        → Among f (given_facts n axioms ks)
    given_among a place f h =
        let s = given_split a place f h in
        let t = listed_split (fact_in (slice_get axioms (a - 1)) place) f s.1 in
        among_flat (λ k. facts_in n (slice_get axioms (k - 1))) a f ks (among_numbers ks a s.0)
        (fact_in_list (slice_get axioms (a - 1)) place f t.0 t.1)

    pub fact_contained : (a place : ℕ) (f : Fact Concept) → fact_of_axiom n axioms ks a place ≡ Some f
        → Contains (given_facts n axioms ks) f
    fact_contained a place f h = contained_among f (given_facts n axioms ks) (given_among a place f h)

    -- where no individual is listed, there is none
    pub facts_of_none : n ≡ 0 → (a place : ℕ) → fact_of_axiom n axioms ks a place ≡ None
    facts_of_none none a place = by (fact_of_axiom n axioms ks a place) refl
      where
        by : (o : Option (Fact Concept)) → fact_of_axiom n axioms ks a place ≡ o → o ≡ None
        by None e = refl
        by (Some f) e = absurd (omega (
          arith,
          none,
          some_listed f (listed_split (fact_in (slice_get axioms (a - 1)) place) f (given_split a place f e).1).1,
        ))

    -- ---- the concepts that they give

    has_of : (f : Fact Concept) (c : Concept) → Among c (given_concept f) → (x : ℕ) × (f ≡ Has x c)
    has_of (Has x d) c h = elim h [ inl e ↦ (x, ap (Has x) (sym e)) | inr later ↦ absurd later ]
    has_of (Edge r x y) c h = absurd h
    has_of (Apart x y) c h = absurd h
    has_of (Same x y) c h = absurd h

    module _ (q : Query) (c : Concept) where
      pub member_among : IsMember (question_of n axioms ks q) c
          → list_any (is_same c) (flat_map given_concept (given_facts n axioms ks)) ≡ true
      member_among m =
          same_among c (flat_map given_concept (given_facts n axioms ks))
          (among_flat given_concept (Has m.node c) c (given_facts n axioms ks)
          (given_among m.axiom_number m.place (Has m.node c) m.is_given) (inl refl))

      pub among_member : list_any (is_same c) (flat_map given_concept (given_facts n axioms ks)) ≡ true
          → IsMember (question_of n axioms ks q) c
      among_member h =
          let r =
          flat_among given_concept c (given_facts n axioms ks)
          (among_same c (flat_map given_concept (given_facts n axioms ks)) h) in
          let x = has_of r.0 c r.2 in
          let s = flat_among (λ k. facts_in n (slice_get axioms (k - 1))) r.0 ks r.1 in
          let t = list_in_fact (slice_get axioms (s.0 - 1)) r.0 s.2 in
          record {
            axiom_number = s.0;
            place = t.0;
            node = x.0;
            is_given =
                given_from s.0 t.0 r.0 (numbers_among ks s.0 s.1) t.1 t.2 ∙ ap (λ (f : Fact Concept). Some f) x.1;
          }
