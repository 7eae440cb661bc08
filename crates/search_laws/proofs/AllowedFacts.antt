-- The facts that axioms within the limits give to a search: their concepts are allowed, the roles of their edges are
-- listed, and they are of listed individuals alone.
use Rattle.std.proofs.Common.{◌≡◌, ℕ, zero, suc, ◌-◌, ◌&&◌, ltb, Bool, true, List, [], ◌∷◌, ◌++◌, map, Some, None, ap}
use Rattle.std.proofs.Common.{◌∙◌, sym, subst, inl, inr}
use Rattle.std.specs.Prelude.{if◌then◌else◌}
use Rattle.std.specs.List.{list_all, slice_get}
use Rattle.std.proofs.lemmas.Bool.{cases_eq, and_parts, eq-eqb, ne_eqb}
use Rattle.shq_terms.specs.Concept.{Concept}
use Rattle.shq_terms.specs.Uses.{uses_listed, axiom_uses_listed, all_use_listed}
use Rattle.shq_terms.specs.declared.axioms.Axiom.{Axiom}
use Rattle.shq_terms.specs.declared.axioms.Axiom.TheVariants.{SubClassOf, EquivalentClasses, DisjointClasses}
use Rattle.shq_terms.specs.declared.axioms.Axiom.TheVariants.{DisjointUnion, SubRole, EquivalentRoles, Domain, Range}
use Rattle.shq_terms.specs.declared.axioms.Axiom.TheVariants.{Functional, Transitive, Member, Pair, SameAll, Different}
use Rattle.shq_terms.specs.declared.axioms.Numbered.{Numbered}
use Rattle.calculus_specs.specs.declared.facts.Fact.{Fact}
use Rattle.calculus_specs.specs.declared.facts.Fact.TheVariants.{Has, Edge, Apart, Same}
use Rattle.ontology_limits.specs.Facts.{same_facts, apart_facts, nth_fact, facts_of}
use Rattle.ontology_limits.specs.Counted.{counted_by}
use Rattle.refutation_truth.specs.Theory.{nodes_pass, fact_in, fact_of_axiom}
use Rattle.search_laws.proofs.GivenFacts.{listed_split, given_split}
use Rattle.search_laws.proofs.Allowed.{IsAllowed, allowed_normal}

-- ---- which axiom gives a fact

pub record IsGivenBy (k : ℕ) (axioms : List Numbered) (a place : ℕ) (f : Fact Concept) : Type 0 where
  pub is_in : fact_in (slice_get axioms (a - 1)) place ≡ Some f
  pub of_listed : nodes_pass (λ x. ltb x k) f ≡ true

pub given_by : (k : ℕ) (axioms : List Numbered) (ks : List ℕ) (a place : ℕ) (f : Fact Concept)
    → fact_of_axiom k axioms ks a place ≡ Some f → IsGivenBy k axioms a place f
given_by k axioms ks a place f e =
    let s = given_split k axioms ks a place f e in
    let t = listed_split k (fact_in (slice_get axioms (a - 1)) place) f s.1 in
    record { is_in = t.0; of_listed = t.1 }

-- ---- which facts axioms give

module _ (classes roles individuals : ℕ) (p : ℕ → Bool) where
  abbrev pub FactAllowed : Fact Concept → Type 0
  FactAllowed (Has x c) = IsAllowed classes roles p c
  FactAllowed (Edge r x y) = ltb r roles ≡ true
  FactAllowed (Apart x y) = Unit {0}
  FactAllowed (Same x y) = Unit {0}

  abbrev FactsAllowed : List (Fact Concept) → Type 0
  FactsAllowed [] = Unit {0}
  FactsAllowed (f ∷ fs) = FactAllowed f × FactsAllowed fs

  facts_append : (fs gs : List (Fact Concept)) → FactsAllowed fs → FactsAllowed gs → FactsAllowed (fs ++ gs)
  facts_append [] gs h k = k
  facts_append (f ∷ fs) gs h k = (h.0, facts_append fs gs h.1 k)

  same_allowed : (as_ : List ℕ) → FactsAllowed (same_facts as_)
  same_allowed [] = tt
  same_allowed (a ∷ []) = tt
  same_allowed (a ∷ b ∷ bs) = (tt, same_allowed (b ∷ bs))

  apart_each : (a : ℕ) (as_ : List ℕ) → FactsAllowed (map (Apart a) as_)
  apart_each a [] = tt
  apart_each a (b ∷ bs) = (tt, apart_each a bs)

  apart_allowed : (as_ : List ℕ) → FactsAllowed (apart_facts as_)
  apart_allowed [] = tt
  apart_allowed (a ∷ as_) = facts_append (map (Apart a) as_) (apart_facts as_) (apart_each a as_) (apart_allowed as_)

  facts_allowed : (a : Axiom) → axiom_uses_listed classes roles individuals a ≡ true → list_all p (counted_by a) ≡ true
      → FactsAllowed (facts_of a)
  facts_allowed (Member c a) h k =
      (allowed_normal classes roles p c ((and_parts (uses_listed classes roles c) (ltb a individuals) h).0, k), tt)
  facts_allowed (Pair r a b) h k = ((and_parts (ltb r roles) (ltb a individuals && ltb b individuals) h).0, tt)
  facts_allowed (SameAll as_) h k = same_allowed as_
  facts_allowed (Different as_) h k = apart_allowed as_
  facts_allowed (SubClassOf c d) h k = tt
  facts_allowed (EquivalentClasses cs) h k = tt
  facts_allowed (DisjointClasses cs) h k = tt
  facts_allowed (DisjointUnion c cs) h k = tt
  facts_allowed (SubRole r s) h k = tt
  facts_allowed (EquivalentRoles rs) h k = tt
  facts_allowed (Domain r c) h k = tt
  facts_allowed (Range r c) h k = tt
  facts_allowed (Functional r) h k = tt
  facts_allowed (Transitive r) h k = tt

  at_allowed : (fs : List (Fact Concept)) (n : ℕ) (f : Fact Concept) → FactsAllowed fs → slice_get fs n ≡ Some f
      → FactAllowed f
  at_allowed [] n f h e = cc
  at_allowed (g ∷ fs) zero f h e = let same : g ≡ f = cc in subst FactAllowed same h.0
  at_allowed (g ∷ fs) (suc n) f h e = at_allowed fs n f h.1 e

  nth_allowed : (fs : List (Fact Concept)) (place : ℕ) (f : Fact Concept) → FactsAllowed fs → nth_fact fs place ≡ Some f
      → FactAllowed f
  nth_allowed fs place f h e = elim (cases_eq place 0) [
    | inl is ↦
        let none : nth_fact fs place ≡ None =
        ap (λ (b : Bool). if b then None else slice_get fs (place - 1)) (eq-eqb place 0 is) in
        absurd (cc)
    | inr isnt ↦
        let given : nth_fact fs place ≡ slice_get fs (place - 1) =
        ap (λ (b : Bool). if b then None else slice_get fs (place - 1)) (ne_eqb place 0 isnt) in
        at_allowed fs (place - 1) f h (sym given ∙ e)
  ]

  in_allowed : (axioms : List Numbered) (n place : ℕ) (f : Fact Concept)
      → all_use_listed classes roles individuals axioms ≡ true
      → list_all (λ (a : Numbered). list_all p (counted_by a.axiom)) axioms ≡ true
      → fact_in (slice_get axioms n) place ≡ Some f → FactAllowed f
  in_allowed [] n place f h k e = absurd (cc)
  in_allowed (a ∷ axioms) zero place f h k e =
      nth_allowed (facts_of a.axiom) place f
      (facts_allowed a.axiom
      (and_parts (axiom_uses_listed classes roles individuals a.axiom) (all_use_listed classes roles individuals axioms)
      h).0
      (and_parts (list_all p (counted_by a.axiom)) (list_all (λ (b : Numbered). list_all p (counted_by b.axiom)) axioms)
      k).0) e
  in_allowed (a ∷ axioms) (suc n) place f h k e =
      in_allowed axioms n place f
      (and_parts (axiom_uses_listed classes roles individuals a.axiom) (all_use_listed classes roles individuals axioms)
      h).1
      (and_parts (list_all p (counted_by a.axiom)) (list_all (λ (b : Numbered). list_all p (counted_by b.axiom)) axioms)
      k).1
      e

  pub given_allowed : (k : ℕ) (axioms : List Numbered) (ks : List ℕ)
      → all_use_listed classes roles individuals axioms ≡ true
      → list_all (λ (a : Numbered). list_all p (counted_by a.axiom)) axioms ≡ true
      → (a place : ℕ) (f : Fact Concept) → fact_of_axiom k axioms ks a place ≡ Some f → FactAllowed f
  given_allowed k axioms ks h c a place f e =
      in_allowed axioms (a - 1) place f h c (given_by k axioms ks a place f e).is_in
