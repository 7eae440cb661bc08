-- What axioms state is what they give.
use Rattle.std.proofs.Common.{◌≡◌, ℕ, zero, suc, ◌+◌, ◌-◌, ◌&&◌, ◌||◌, Bool, true, false, eqb, List, [], ◌∷◌, ◌++◌, map}
use Rattle.std.proofs.Common.{Option, Some, None, refl, ap, sym, ◌∙◌, subst, arith, inl, inr}
use Rattle.std.specs.Prelude.{slice_get, if◌then◌else◌}
use Rattle.std.specs.List.{All, list_any}
use Rattle.std.proofs.lemmas.Bool.{cases_eq, eq-eqb, ne_eqb, eqb-true, and_from, or_cases}
use Rattle.std.proofs.lemmas.List.{map-append}
use Rattle.std.proofs.lemmas.List.Elements.{All-nil, All-cons, All-append}
use Rattle.std.proofs.lemmas.List.Folds.{list_any-append}
use Rattle.refutation_truth.specs.Concept.{Concept}
use Rattle.refutation_truth.specs.Axiom.{Axiom}
use Rattle.refutation_truth.specs.Axiom.TheVariants.{SubClassOf, EquivalentClasses, DisjointClasses, DisjointUnion}
use Rattle.refutation_truth.specs.Axiom.TheVariants.{SubRole}
use Rattle.refutation_truth.specs.Axiom.TheVariants.{EquivalentRoles, Domain, Range, Functional, Transitive, Member}
use Rattle.refutation_truth.specs.Axiom.TheVariants.{Pair}
use Rattle.refutation_truth.specs.Axiom.TheVariants.{SameAll, Different}
use Rattle.refutation_truth.specs.Numbered.{Numbered}
use Rattle.refutation_truth.specs.Uses.{all_use_listed}
use Rattle.calculus_specs.specs.declared.facts.Fact.{Fact}
use Rattle.calculus_specs.specs.declared.facts.Fact.TheVariants.{Apart, Same}
use Rattle.calculus_specs.specs.Normal.{normal_form}
use Rattle.calculus_specs.specs.Reading.{read_fact}
use Rattle.calculus_specs.specs.Rows.{is_among}
use Rattle.refutation_truth.specs.Facts.{same_facts, apart_facts, facts_of, nth_fact}
use Rattle.refutation_truth.specs.Theory.{fact_in, fact_of_axiom, listed_fact}
use Rattle.refutation_truth.proofs.Asserted.{all_given}
use Rattle.assertion_box.specs.Stated.{Stated, own_facts, own_facts_in, numbered_facts, stated_facts}
use Rattle.assertion_box.specs.Laws.{AreGivenBy}

-- ---- the facts of one axiom, over normal forms

abbrev normal : Fact Concept → Fact Concept
normal f = read_fact normal_form f

same_normal : (as_ : List ℕ) → map normal (same_facts as_) ≡ same_facts as_
same_normal [] = refl
same_normal (a ∷ []) = refl
same_normal (a ∷ b ∷ bs) = ap (λ (fs : List (Fact Concept)). Same a b ∷ fs) (same_normal (b ∷ bs))

aparts_normal : (a : ℕ) (bs : List ℕ) → map normal (map (Apart a) bs) ≡ map (Apart a) bs
aparts_normal a [] = refl
aparts_normal a (b ∷ bs) = ap (λ (fs : List (Fact Concept)). Apart a b ∷ fs) (aparts_normal a bs)

apart_normal : (as_ : List ℕ) → map normal (apart_facts as_) ≡ apart_facts as_
apart_normal [] = refl
apart_normal (a ∷ as_) =
    map-append normal (map (Apart a) as_) (apart_facts as_)
    ∙ ap (λ (fs : List (Fact Concept)). fs ++ map normal (apart_facts as_)) (aparts_normal a as_)
    ∙ ap (λ (fs : List (Fact Concept)). map (Apart a) as_ ++ fs) (apart_normal as_)

own_normal : (a : Axiom) → map normal (own_facts a) ≡ facts_of a
own_normal (Member c a) = refl
own_normal (Pair r a b) = refl
own_normal (SameAll as_) = same_normal as_
own_normal (Different as_) = apart_normal as_
own_normal (SubClassOf c d) = refl
own_normal (EquivalentClasses cs) = refl
own_normal (DisjointClasses cs) = refl
own_normal (DisjointUnion c cs) = refl
own_normal (SubRole r s) = refl
own_normal (EquivalentRoles rs) = refl
own_normal (Domain r c) = refl
own_normal (Range r c) = refl
own_normal (Functional r) = refl
own_normal (Transitive r) = refl

-- ---- numbered facts

-- each is at its place
each_numbered : (P : Stated → Type 0) (k first : ℕ) (fs : List (Fact Concept))
    → ((n : ℕ) (f : Fact Concept) → slice_get fs n ≡ Some f
    → P (record { axiom_number = k; place = first + n; fact = f }))
    → All P (numbered_facts k first fs)
each_numbered P k first [] h = All-nil P
each_numbered P k first (f ∷ fs) h =
    All-cons P (record { axiom_number = k; place = first; fact = f }) (numbered_facts k (first + 1) fs)
    (subst (λ (n : ℕ). P (record { axiom_number = k; place = n; fact = f })) (omega arith) (h 0 f refl))
    (each_numbered P k (first + 1) fs
    (λ n g e. subst (λ (m : ℕ). P (record { axiom_number = k; place = m; fact = g })) (omega arith) (h (suc n) g e)))

abbrev stands_at : ℕ → ℕ → Stated → Bool
stands_at a p s = eqb s.axiom_number a && eqb s.place p

-- each place has one
numbered_every : (k first : ℕ) (fs : List (Fact Concept)) (n : ℕ) (f : Fact Concept) → slice_get fs n ≡ Some f
    → list_any (stands_at k (first + n)) (numbered_facts k first fs) ≡ true
numbered_every k first [] n f e = cc
numbered_every k first (g ∷ fs) zero f e =
    ap (λ (b : Bool). b || list_any (stands_at k (first + 0)) (numbered_facts k (first + 1) fs))
    (and_from (eqb k k) (eqb first (first + 0)) (eq-eqb k k refl) (eq-eqb first (first + 0) (omega arith)))
numbered_every k first (g ∷ fs) (suc n) f e =
    or_right (stands_at k (first + suc n) (record { axiom_number = k; place = first; fact = g }))
    (list_any (stands_at k (first + suc n)) (numbered_facts k (first + 1) fs))
    (subst (λ (m : ℕ). list_any (stands_at k m) (numbered_facts k (first + 1) fs) ≡ true) (omega arith)
    (numbered_every k (first + 1) fs n f e))
  where
    or_right : (a b : Bool) → b ≡ true → (a || b) ≡ true
    or_right true b h = refl
    or_right false b h = h

-- ---- a place of a mapped list

got_mapped : {X Y : Type 0} (f : X → Y) (xs : List X) (n : ℕ) (x : X) → slice_get xs n ≡ Some x
    → slice_get (map f xs) n ≡ Some (f x)
got_mapped f [] n x e = cc
got_mapped f (y ∷ xs) zero x e = let same : y ≡ x = cc in ap (λ z. Some (f z)) same
got_mapped f (y ∷ xs) (suc n) x e = got_mapped f xs n x e

got_before : {X Y : Type 0} (f : X → Y) (xs : List X) (n : ℕ) (y : Y) → slice_get (map f xs) n ≡ Some y
    → (x : X) × (slice_get xs n ≡ Some x)
got_before f [] n y e = cc
got_before f (x ∷ xs) zero y e = (x, refl)
got_before f (x ∷ xs) (suc n) y e = got_before f xs n y e

-- ---- the facts of the axioms of some numbers

module _ (classes roles k : ℕ) (axioms : List Numbered) (ks : List ℕ)
    (listed : all_use_listed classes roles k axioms ≡ true) where
  abbrev IsThere : Stated → Type 0
  IsThere s = fact_of_axiom k axioms ks s.axiom_number s.place ≡ Some (normal s.fact)

  -- the axiom of a number among these gives its facts
  gives : (a : ℕ) → is_among ks a ≡ true → (o : Option Numbered) → slice_get axioms (a - 1) ≡ o
      → (n : ℕ) (f : Fact Concept) → slice_get (own_facts_in o) n ≡ Some f
      → fact_of_axiom k axioms ks a (1 + n) ≡ Some (normal f)
  gives a among None is n f e = cc
  gives a among (Some x) is n f e =
      all_given classes roles k axioms ks a (1 + n) listed among
      ∙ ap (λ (o : Option Numbered). fact_in o (1 + n)) is
      ∙ ap (λ (b : Bool). if b then None else slice_get (facts_of x.axiom) (1 + n - 1))
      (ne_eqb (1 + n) 0 (λ e. omega (arith, e)))
      ∙ ap (λ (m : ℕ). slice_get (facts_of x.axiom) m) (omega arith)
      ∙ ap (λ (fs : List (Fact Concept)). slice_get fs n) (sym (own_normal x.axiom))
      ∙ got_mapped normal (own_facts x.axiom) n f e

  each_of : (js : List ℕ) → ((a : ℕ) → is_among js a ≡ true → is_among ks a ≡ true)
      → All IsThere (stated_facts axioms js)
  each_of [] within = All-nil IsThere
  each_of (j ∷ js) within =
      All-append IsThere (numbered_facts j 1 (own_facts_in (slice_get axioms (j - 1)))) (stated_facts axioms js)
      (each_numbered IsThere j 1 (own_facts_in (slice_get axioms (j - 1)))
      (gives j (within j (ap (λ (b : Bool). b || is_among js j) (eq-eqb j j refl))) (slice_get axioms (j - 1)) refl))
      (each_of js (λ a among. within a (later (eqb j a) (is_among js a) among)))
    where
      later : (a b : Bool) → b ≡ true → (a || b) ≡ true
      later true b h = refl
      later false b h = h

  -- a fact of an axiom is one of its own
  own_place : (a p : ℕ) (f : Fact Concept) (o : Option Numbered) → fact_in o p ≡ Some f
      → (n : ℕ) × (g : Fact Concept) × (p ≡ 1 + n) × (slice_get (own_facts_in o) n ≡ Some g)
  own_place a p f None e = cc
  own_place a p f (Some x) e = elim (cases_eq p 0) [
    | inl is ↦
        let none : nth_fact (facts_of x.axiom) p ≡ None =
        ap (λ (b : Bool). if b then None else slice_get (facts_of x.axiom) (p - 1)) (eq-eqb p 0 is) in
        cc
    | inr isnt ↦
        let given : nth_fact (facts_of x.axiom) p ≡ slice_get (facts_of x.axiom) (p - 1) =
        ap (λ (b : Bool). if b then None else slice_get (facts_of x.axiom) (p - 1)) (ne_eqb p 0 isnt) in
        let before =
        got_before normal (own_facts x.axiom) (p - 1) f
        (ap (λ (fs : List (Fact Concept)). slice_get fs (p - 1)) (own_normal x.axiom) ∙ sym given ∙ e) in
        (p - 1, before.0, omega (arith, isnt), before.1)
  ]

  found_in : (js : List ℕ) (a p : ℕ) (f : Fact Concept) → is_among js a ≡ true
      → fact_in (slice_get axioms (a - 1)) p ≡ Some f → list_any (stands_at a p) (stated_facts axioms js) ≡ true
  found_in [] a p f among e = cc
  found_in (j ∷ js) a p f among e =
      list_any-append (stands_at a p) (numbered_facts j 1 (own_facts_in (slice_get axioms (j - 1))))
      (stated_facts axioms js)
      ∙ elim (or_cases (eqb j a) (is_among js a) among) [
        | inl here ↦
            (let same = eqb-true j a here in
            let at = own_place a p f (slice_get axioms (a - 1)) e in
            let there = numbered_every a 1 (own_facts_in (slice_get axioms (a - 1))) at.0 at.1 at.3 in
            ap (λ (b : Bool). b || list_any (stands_at a p) (stated_facts axioms js))
            (subst
            (λ (i : ℕ). list_any (stands_at a p) (numbered_facts i 1 (own_facts_in (slice_get axioms (i - 1)))) ≡ true)
            (sym same)
            (subst
            (λ (q : ℕ). list_any (stands_at a q) (numbered_facts a 1 (own_facts_in (slice_get axioms (a - 1)))) ≡ true)
            (sym at.2) there)))
        | inr later ↦
            last (list_any (stands_at a p) (numbered_facts j 1 (own_facts_in (slice_get axioms (j - 1))))) _
            (found_in js a p f later e)
      ]
    where
      last : (a b : Bool) → b ≡ true → (a || b) ≡ true
      last true b h = refl
      last false b h = h

  found : (a p : ℕ) (f : Fact Concept) → fact_of_axiom k axioms ks a p ≡ Some f
      → list_any (stands_at a p) (stated_facts axioms ks) ≡ true
  found a p f e = by (is_among ks a) refl
    where
      given : Option (Fact Concept)
      given = listed_fact k (fact_in (slice_get axioms (a - 1)) p)

      by : (b : Bool) → is_among ks a ≡ b → list_any (stands_at a p) (stated_facts axioms ks) ≡ true
      by true among = found_in ks a p f among (sym (all_given classes roles k axioms ks a p listed among) ∙ e)
      by false out =
          let none : fact_of_axiom k axioms ks a p ≡ None = ap (λ (b : Bool). if b then given else None) out in
          cc

  pub are_given : AreGivenBy k axioms ks (stated_facts axioms ks)
  are_given = record { each = each_of ks (λ a among. among); every = found }
