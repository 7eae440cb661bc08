-- The facts that named axioms give: they are true of the individuals, and are all that the axioms say.
use Rattle.std.proofs.Common.{◌≡◌, ℕ, zero, suc, ◌+◌, ◌-◌, ◌<◌, ◌&&◌, Bool, true, false, not, cond, eqb, ltb, List, []}
use Rattle.std.proofs.Common.{◌∷◌, map, Option, Some, None, refl, ap, ◌∙◌, sym, subst, arith, inl, inr}
use Rattle.std.specs.Prelude.{slice_get, if◌then◌else◌}
use Rattle.std.specs.List.{list_all}
use Rattle.std.proofs.lemmas.Bool.{cases_eq, cases_lt, and_parts, and_from, or_cases, eqb-true, eq-eqb, ne_eqb, lt-ltb}
use Rattle.std.proofs.lemmas.Bool.{le-ltb, not-true}
use Rattle.std.proofs.lemmas.List.Folds.{list_all-map}
use Rattle.shq_nnf.specs.Concept.{Concept}
use Rattle.shq_nnf.specs.Axiom.{Axiom}
use Rattle.shq_nnf.specs.Axiom.TheVariants.{SubClassOf, EquivalentClasses, DisjointClasses, DisjointUnion, SubRole}
use Rattle.shq_nnf.specs.Axiom.TheVariants.{EquivalentRoles, Domain, Range, Functional, Transitive, Member, Pair}
use Rattle.shq_nnf.specs.Axiom.TheVariants.{SameAll, Different}
use Rattle.shq_nnf.specs.Numbered.{Numbered}
use Rattle.role_box.specs.On.{On}
use Rattle.role_box.specs.On.TheVariants.{Any, Individual}
use Rattle.role_box.specs.Query.{Query}
use Rattle.role_box.specs.Uses.{uses_listed, axiom_uses_listed, all_use_listed}
use Rattle.role_box.specs.Fact.{Fact}
use Rattle.role_box.specs.Fact.TheVariants.{Apart}
use Rattle.role_box.specs.TheoryRows.{is_among}
use Rattle.shq_nnf.specs.Truth.{Interpretation, holds, meets, meets_all, is_asked_at, refutes_at}
use Rattle.shq_nnf.specs.Meeting.{is_true}
use Rattle.shq_nnf.specs.Facts.{same_facts, apart_facts, facts_of, fact_at}
use Rattle.shq_nnf.proofs.Facts.{assertion_is_facts}
use Rattle.refutation_truth.specs.Theory.{axioms_in, named_axioms, nodes_pass, listed_fact, fact_in, fact_of_axiom}
use Rattle.refutation_truth.specs.Theory.{node_in_question, question_of}
use Rattle.refutation_truth.proofs.Models.{all_with, all_of_both}
use Rattle.refutation_truth.proofs.Lines.{IsTrueOfNamed, begun, MeetsQuestion}
use Rattle.refutation_truth.proofs.Named.{met_parts, meets_theory}

-- what all pass passes what stands at a place
passes_at : {X : Type 0} (p : X → Bool) (xs : List X) (n : ℕ) (x : X) → list_all p xs ≡ true → slice_get xs n ≡ Some x
    → p x ≡ true
passes_at p [] n x h e = cc
passes_at p (y ∷ xs) zero x h e =
    let same : y ≡ x = cc in subst (λ z. p z ≡ true) same (and_parts (p y) (list_all p xs) h).0
passes_at p (y ∷ xs) (suc n) x h e = passes_at p xs n x (and_parts (p y) (list_all p xs) h).1 e

-- a fact at a place is one of the axiom's facts
fact_passes : (p : Fact Concept → Bool) (a : Axiom) (place : ℕ) (f : Fact Concept) → list_all p (facts_of a) ≡ true
    → fact_at a place ≡ Some f → p f ≡ true
fact_passes p a place f h e = elim (cases_eq place 0) [
  | inl is ↦
      let none : fact_at a place ≡ None =
      ap (λ (b : Bool). if b then None else slice_get (facts_of a) (place - 1)) (eq-eqb place 0 is) in
      cc
  | inr isnt ↦
      let given : fact_at a place ≡ slice_get (facts_of a) (place - 1) =
      ap (λ (b : Bool). if b then None else slice_get (facts_of a) (place - 1)) (ne_eqb place 0 isnt) in
      passes_at p (facts_of a) (place - 1) f h (sym given ∙ e)
]

-- ---- true facts

module _ (i : Interpretation) where
  facts_true : (a : Axiom) → meets i a ≡ true → list_all (is_true i i.individual) (facts_of a) ≡ true
  facts_true (Member c a) m = sym (assertion_is_facts i (Member c a) refl) ∙ m
  facts_true (Pair r a b) m = sym (assertion_is_facts i (Pair r a b) refl) ∙ m
  facts_true (SameAll as_) m = sym (assertion_is_facts i (SameAll as_) refl) ∙ m
  facts_true (Different as_) m = sym (assertion_is_facts i (Different as_) refl) ∙ m
  facts_true (SubClassOf c d) m = refl
  facts_true (EquivalentClasses cs) m = refl
  facts_true (DisjointClasses cs) m = refl
  facts_true (DisjointUnion c cs) m = refl
  facts_true (SubRole r s) m = refl
  facts_true (EquivalentRoles rs) m = refl
  facts_true (Domain r c) m = refl
  facts_true (Range r c) m = refl
  facts_true (Functional r) m = refl
  facts_true (Transitive r) m = refl

  in_true : (o : Option Numbered) (place : ℕ) (f : Fact Concept) → list_all (meets i) (axioms_in o) ≡ true
      → fact_in o place ≡ Some f → is_true i i.individual f ≡ true
  in_true None place f m e = cc
  in_true (Some n) place f m e =
      fact_passes (is_true i i.individual) n.axiom place f (facts_true n.axiom (and_parts (meets i n.axiom) true m).0) e

  module _ (axioms : List Numbered) where
    among_met : (ks : List ℕ) (a : ℕ) → is_among ks a ≡ true → meets_all i (named_axioms axioms ks) ≡ true
        → list_all (meets i) (axioms_in (slice_get axioms (a - 1))) ≡ true
    among_met [] a among m = cc
    among_met (k ∷ ks) a among m =
        let b = met_parts i axioms k ks m in
        elim (or_cases (eqb k a) (is_among ks a) among) [
          | inl here ↦
              subst (λ (n : ℕ). list_all (meets i) (axioms_in (slice_get axioms (n - 1))) ≡ true) (eqb-true k a here)
              b.0
          | inr later ↦ among_met ks a later b.1
        ]

    listed_true : (k : ℕ) (o : Option (Fact Concept)) (f : Fact Concept)
        → ((g : Fact Concept) → o ≡ Some g → is_true i i.individual g ≡ true) → listed_fact k o ≡ Some f
        → IsTrueOfNamed i k f
    listed_true k None f true_of e = cc
    listed_true k (Some g) f true_of e = by (nodes_pass (λ a. ltb a k) g) refl
      where
        by : (b : Bool) → nodes_pass (λ a. ltb a k) g ≡ b → IsTrueOfNamed i k f
        by true of_named =
            let given : listed_fact k (Some g) ≡ Some g = ap (λ (b : Bool). if b then Some g else None) of_named in
            let same : g ≡ f = cc in
            subst (IsTrueOfNamed i k) same (record { true_of = true_of g refl; of_named = of_named })
        by false out =
            let none : listed_fact k (Some g) ≡ None = ap (λ (b : Bool). if b then Some g else None) out in
            cc

    given_true : (k : ℕ) (ks : List ℕ) → meets_all i (named_axioms axioms ks) ≡ true → (a place : ℕ) (f : Fact Concept)
        → fact_of_axiom k axioms ks a place ≡ Some f → IsTrueOfNamed i k f
    given_true k ks m a place f e = by (is_among ks a) refl
      where
        given : Option (Fact Concept)
        given = listed_fact k (fact_in (slice_get axioms (a - 1)) place)

        by : (b : Bool) → is_among ks a ≡ b → IsTrueOfNamed i k f
        by true among =
            let is : fact_of_axiom k axioms ks a place ≡ given = ap (λ (b : Bool). if b then given else None) among in
            listed_true k (fact_in (slice_get axioms (a - 1)) place) f
            (λ g. in_true (slice_get axioms (a - 1)) place g (among_met ks a among m)) (sym is ∙ e)
        by false out =
            let none : fact_of_axiom k axioms ks a place ≡ None = ap (λ (b : Bool). if b then given else None) out in
            cc

  -- ---- the question of a query

  at_node : (k : ℕ) (on : On) (v : ℕ) → is_asked_at i on v ≡ true → node_in_question k on < k + 1
      → begun i k v (node_in_question k on) ≡ v
  at_node k Any v asked lt = ap (λ (b : Bool). cond b (i.individual k) v) (le-ltb k k (omega arith))
  at_node k (Individual a) v asked lt = elim (cases_lt a k) [
    | inl less ↦
        let is = lt-ltb a k less in
        let node : node_in_question k (Individual a) ≡ a = ap (λ (b : Bool). if b then a else k + 1) is in
        ap (begun i k v) node ∙ ap (λ (b : Bool). cond b (i.individual a) v) is
        ∙ sym (eqb-true v (i.individual a) asked)
    | inr le ↦
        let node : node_in_question k (Individual a) ≡ k + 1 =
        ap (λ (b : Bool). if b then a else k + 1) (le-ltb a k le) in
        absurd (omega (arith, node, lt))
  ]

  pub question_met : (k : ℕ) (axioms : List Numbered) (ks : List ℕ) (q : Query)
      → meets_all i (named_axioms axioms ks) ≡ true → (v : ℕ) → refutes_at i q v ≡ true
      → MeetsQuestion i k (question_of k axioms ks q) v
  question_met k axioms ks q m v counter =
      let asked = and_parts (is_asked_at i q.on v) (holds i q.sub v && not (holds i q.sup v)) counter in
      let b = and_parts (holds i q.sub v) (not (holds i q.sup v)) asked.1 in
      record {
        theory_met = meets_theory i axioms ks m;
        facts_met = given_true axioms k ks m;
        are_first = omega arith;
        is_at = at_node k q.on v asked.0;
        in_sub = b.0;
        not_in_sup = not-true (holds i q.sup v) b.1;
      }

-- ---- all facts

module _ (classes roles k : ℕ) where
  abbrev listed : Fact Concept → Bool
  listed f = nodes_pass (λ a. ltb a k) f

  same_listed : (as_ : List ℕ) → list_all (λ a. ltb a k) as_ ≡ true → list_all listed (same_facts as_) ≡ true
  same_listed [] h = refl
  same_listed (a ∷ []) h = refl
  same_listed (a ∷ b ∷ bs) h =
      let here = and_parts (ltb a k) (list_all (λ c. ltb c k) (b ∷ bs)) h in
      let next = and_parts (ltb b k) (list_all (λ c. ltb c k) bs) here.1 in
      and_from (ltb a k && ltb b k) (list_all listed (same_facts (b ∷ bs))) (and_from (ltb a k) (ltb b k) here.0 next.0)
      (same_listed (b ∷ bs) here.1)

  apart_listed : (as_ : List ℕ) → list_all (λ a. ltb a k) as_ ≡ true → list_all listed (apart_facts as_) ≡ true
  apart_listed [] h = refl
  apart_listed (a ∷ as_) h =
      let here = and_parts (ltb a k) (list_all (λ b. ltb b k) as_) h in
      let each =
      all_with (λ b. ltb b k) (λ b. ltb b k) (λ b. ltb a k && ltb b k)
      (λ b lt again. and_from (ltb a k) (ltb b k) here.0 lt) as_ here.1 here.1 in
      all_of_both listed (map (Apart a) as_) (apart_facts as_) (list_all-map listed (Apart a) as_ ∙ each)
      (apart_listed as_ here.1)

  facts_listed : (a : Axiom) → axiom_uses_listed classes roles k a ≡ true → list_all listed (facts_of a) ≡ true
  facts_listed (Member c a) h = and_from (ltb a k) true (and_parts (uses_listed classes roles c) (ltb a k) h).1 refl
  facts_listed (Pair r a b) h =
      and_from (ltb a k && ltb b k) true (and_parts (ltb r roles) (ltb a k && ltb b k) h).1 refl
  facts_listed (SameAll as_) h = same_listed as_ h
  facts_listed (Different as_) h = apart_listed as_ h
  facts_listed (SubClassOf c d) h = refl
  facts_listed (EquivalentClasses cs) h = refl
  facts_listed (DisjointClasses cs) h = refl
  facts_listed (DisjointUnion c cs) h = refl
  facts_listed (SubRole r s) h = refl
  facts_listed (EquivalentRoles rs) h = refl
  facts_listed (Domain r c) h = refl
  facts_listed (Range r c) h = refl
  facts_listed (Functional r) h = refl
  facts_listed (Transitive r) h = refl

  got_listed : (axioms : List Numbered) (n : ℕ) (x : Numbered) → all_use_listed classes roles k axioms ≡ true
      → slice_get axioms n ≡ Some x → axiom_uses_listed classes roles k x.axiom ≡ true
  got_listed [] n x h e = cc
  got_listed (y ∷ axioms) zero x h e =
      let same : y ≡ x = cc in
      subst (λ (z : Numbered). axiom_uses_listed classes roles k z.axiom ≡ true) same
      (and_parts (axiom_uses_listed classes roles k y.axiom) (all_use_listed classes roles k axioms) h).0
  got_listed (y ∷ axioms) (suc n) x h e =
      got_listed axioms n x
      (and_parts (axiom_uses_listed classes roles k y.axiom) (all_use_listed classes roles k axioms) h).1 e

  -- a fact of listed individuals is given
  stays : (o : Option (Fact Concept)) → ((f : Fact Concept) → o ≡ Some f → listed f ≡ true) → listed_fact k o ≡ o
  stays None each = refl
  stays (Some f) each = ap (λ (b : Bool). if b then Some f else None) (each f refl)

  in_listed : (o : Option Numbered) (place : ℕ)
      → ((x : Numbered) → o ≡ Some x → axiom_uses_listed classes roles k x.axiom ≡ true) → (f : Fact Concept)
      → fact_in o place ≡ Some f → listed f ≡ true
  in_listed None place each f e = cc
  in_listed (Some x) place each f e = fact_passes listed x.axiom place f (facts_listed x.axiom (each x refl)) e

  pub all_given : (axioms : List Numbered) (ks : List ℕ) (a place : ℕ) → all_use_listed classes roles k axioms ≡ true
      → is_among ks a ≡ true
      → fact_of_axiom k axioms ks a place ≡ fact_in (slice_get axioms (a - 1)) place
  all_given axioms ks a place h among =
      ap (λ (b : Bool). if b then listed_fact k (fact_in (slice_get axioms (a - 1)) place) else None) among
      ∙ stays (fact_in (slice_get axioms (a - 1)) place)
      (in_listed (slice_get axioms (a - 1)) place (λ x. got_listed axioms (a - 1) x h))
