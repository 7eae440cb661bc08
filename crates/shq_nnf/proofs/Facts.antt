-- An assertion is met where its facts are true.
use Rattle.std.proofs.Common.{◌≡◌, ℕ, Bool, true, false, ◌&&◌, eqb, List, [], ◌∷◌, map, refl, ap, sym, ◌∙◌, inl, inr}
use Rattle.std.specs.List.{list_all}
use Rattle.std.proofs.lemmas.Bool.{cases_Bool, eqb-true, eqb-false, eq-eqb, ne_eqb}
use Rattle.std.proofs.lemmas.List.Folds.{list_all-append, list_all-map}
use Rattle.std.proofs.Math.Bool.{and-true}
use Rattle.shq_meaning.specs.Concept.{Concept}
use Rattle.shq_meaning.specs.Axiom.{Axiom}
use Rattle.shq_meaning.specs.Axiom.TheVariants.{SubClassOf, EquivalentClasses, DisjointClasses, DisjointUnion, SubRole}
use Rattle.shq_meaning.specs.Axiom.TheVariants.{EquivalentRoles, Domain, Range, Functional, Transitive, Member, Pair}
use Rattle.shq_meaning.specs.Axiom.TheVariants.{SameAll, Different}
use Rattle.shq_meaning.specs.Truth.{Interpretation, holds, are_same, differs_from_all, are_different, meets}
use Rattle.calculus_specs.specs.Normal.{normal_form}
use Rattle.calculus_specs.specs.declared.facts.Fact.{Fact}
use Rattle.calculus_specs.specs.declared.facts.Fact.TheVariants.{Apart}
use Rattle.shq_nnf.specs.Facts.{same_facts, apart_facts, facts_of}
use Rattle.shq_nnf.specs.Meeting.{is_true, is_assertion}
use Rattle.shq_nnf.proofs.Truth.{normal_truth}

module _ (i : Interpretation) where
  abbrev at : ℕ → ℕ
  at a = i.individual a

  abbrev is_so : Fact Concept → Bool
  is_so f = is_true i i.individual f

  equal_back : (m n : ℕ) → eqb m n ≡ eqb n m
  equal_back m n = elim (cases_Bool (eqb m n)) [
    | inl is ↦ is ∙ sym (eq-eqb n m (sym (eqb-true m n is)))
    | inr isnt ↦ isnt ∙ sym (ne_eqb n m (λ e. eqb-false m n isnt (sym e)))
  ]

  -- each is the same as the next exactly where each is the same as the first
  next_by : (a b : ℕ) (bs : List ℕ) (same : Bool) → eqb (at b) (at a) ≡ same
      → (eqb (at a) (at b) && list_all (λ c. eqb (at c) (at b)) bs)
      ≡ (eqb (at b) (at a) && list_all (λ c. eqb (at c) (at a)) bs)
  next_by a b bs true is =
      ap (λ (t : Bool). t && list_all (λ c. eqb (at c) (at b)) bs) (equal_back (at a) (at b))
      ∙ ap (λ (n : ℕ). eqb (at b) (at a) && list_all (λ c. eqb (at c) n) bs) (eqb-true (at b) (at a) is)
  next_by a b bs false isnt =
      ap (λ (t : Bool). t && list_all (λ c. eqb (at c) (at b)) bs) (equal_back (at a) (at b) ∙ isnt)
      ∙ sym (ap (λ (t : Bool). t && list_all (λ c. eqb (at c) (at a)) bs) isnt)

  same_as_first : (a : ℕ) (as_ : List ℕ) → list_all is_so (same_facts (a ∷ as_)) ≡ list_all (λ b. eqb (at b) (at a)) as_
  same_as_first a [] = refl
  same_as_first a (b ∷ bs) =
      ap (λ (t : Bool). eqb (at a) (at b) && t) (same_as_first b bs) ∙ next_by a b bs (eqb (at b) (at a)) refl

  same_met : (as_ : List ℕ) → are_same i as_ ≡ list_all is_so (same_facts as_)
  same_met [] = refl
  same_met (a ∷ as_) =
      ap (λ (t : Bool). t && list_all (λ b. eqb (at b) (at a)) as_) (eq-eqb (at a) (at a) refl)
      ∙ sym (same_as_first a as_)

  apart_met : (as_ : List ℕ) → are_different i as_ ≡ list_all is_so (apart_facts as_)
  apart_met [] = refl
  apart_met (a ∷ as_) =
      ap (λ (t : Bool). differs_from_all i a as_ && t) (apart_met as_)
      ∙ ap (λ (t : Bool). t && list_all is_so (apart_facts as_)) (sym (list_all-map is_so (Apart a) as_))
      ∙ sym (list_all-append is_so (map (Apart a) as_) (apart_facts as_))

  pub assertion_is_facts : (a : Axiom) → is_assertion a ≡ true → meets i a ≡ list_all is_so (facts_of a)
  assertion_is_facts (Member c a) h = sym (normal_truth i c (at a)) ∙ sym (and-true (holds i (normal_form c) (at a)))
  assertion_is_facts (Pair r a b) h = sym (and-true (i.in_role r (at a) (at b)))
  assertion_is_facts (SameAll as_) h = same_met as_
  assertion_is_facts (Different as_) h = apart_met as_
  assertion_is_facts (SubClassOf c d) h = cc
  assertion_is_facts (EquivalentClasses cs) h = cc
  assertion_is_facts (DisjointClasses cs) h = cc
  assertion_is_facts (DisjointUnion c cs) h = cc
  assertion_is_facts (SubRole r s) h = cc
  assertion_is_facts (EquivalentRoles rs) h = cc
  assertion_is_facts (Domain r c) h = cc
  assertion_is_facts (Range r c) h = cc
  assertion_is_facts (Functional r) h = cc
  assertion_is_facts (Transitive r) h = cc
