-- Without individuals a query asks what it asked before there were any.
use Rattle.std.proofs.Common.{◌≡◌, ℕ, zero, suc, ◌-◌, Bool, true, false, not, List, [], ◌∷◌, Option, None, refl, ap}
use Rattle.std.proofs.Common.{◌∙◌, sym, subst}
use Rattle.std.specs.Prelude.{◌==◌, slice_get, if◌then◌else◌}
use Rattle.std.specs.List.{list_all}
use Rattle.std.proofs.lemmas.Bool.{and_parts}
use Rattle.shq_nnf.specs.Concept.{Concept}
use Rattle.shq_nnf.specs.Axiom.{Axiom}
use Rattle.shq_nnf.specs.Axiom.TheVariants.{SubClassOf, EquivalentClasses, DisjointClasses, DisjointUnion, SubRole}
use Rattle.shq_nnf.specs.Axiom.TheVariants.{EquivalentRoles, Domain, Range, Functional, Transitive, Member, Pair}
use Rattle.shq_nnf.specs.Axiom.TheVariants.{SameAll, Different}
use Rattle.shq_nnf.specs.Numbered.{Numbered}
use Rattle.role_box.specs.On.TheVariants.{Any}
use Rattle.role_box.specs.Query.{Query}
use Rattle.role_box.specs.Shape.{Shape}
use Rattle.role_box.specs.Fact.{Fact}
use Rattle.role_box.specs.TheoryRows.{is_among}
use Rattle.role_box.specs.Line.{Line}
use Rattle.role_box.specs.Rules.{Question, on_any}
use Rattle.role_box.specs.Valid.{concept_at, open_after_all, IsBrokenAt, IsRefutation}
use Rattle.shq_nnf.specs.Meeting.{is_assertion}
use Rattle.shq_nnf.specs.Facts.{facts_of, fact_at}
use Rattle.refutation_truth.specs.Theory.{theory_of, listed_fact, fact_in, fact_of_axiom, node_in_question, question_of}
use Rattle.refutation_truth.specs.Laws.{AreJudgedAlike, OldRefutationsStand}

-- an axiom that asserts nothing has no fact
no_facts : (a : Axiom) → not (is_assertion a) ≡ true → facts_of a ≡ []
no_facts (SubClassOf c d) h = refl
no_facts (EquivalentClasses cs) h = refl
no_facts (DisjointClasses cs) h = refl
no_facts (DisjointUnion c cs) h = refl
no_facts (SubRole r s) h = refl
no_facts (EquivalentRoles rs) h = refl
no_facts (Domain r c) h = refl
no_facts (Range r c) h = refl
no_facts (Functional r) h = refl
no_facts (Transitive r) h = refl
no_facts (Member c a) h = cc
no_facts (Pair r a b) h = cc
no_facts (SameAll as_) h = cc
no_facts (Different as_) h = cc

abbrev none : Option (Fact Concept)
none = None

either_is_none : (b : Bool) → (if b then none else none) ≡ none
either_is_none true = refl
either_is_none false = refl

no_fact : (a : Axiom) (place : ℕ) → not (is_assertion a) ≡ true → fact_at a place ≡ None
no_fact a place h =
    ap (λ (fs : List (Fact Concept)). if place == 0 then None else slice_get fs (place - 1)) (no_facts a h)
    ∙ either_is_none (place == 0)

module _ (place : ℕ) where
  none_at : (axioms : List Numbered) (n : ℕ) → list_all (λ m. not (is_assertion m.axiom)) axioms ≡ true
      → fact_in (slice_get axioms n) place ≡ None
  none_at [] n h = refl
  none_at (a ∷ axioms) zero h =
      no_fact a.axiom place
      (and_parts (not (is_assertion a.axiom)) (list_all (λ m. not (is_assertion m.axiom)) axioms) h).0
  none_at (a ∷ axioms) (suc n) h =
      none_at axioms n (and_parts (not (is_assertion a.axiom)) (list_all (λ m. not (is_assertion m.axiom)) axioms) h).1

  none_given : (axioms : List Numbered) (ks : List ℕ) (a : ℕ) → list_all (λ m. not (is_assertion m.axiom)) axioms ≡ true
      → fact_of_axiom 0 axioms ks a place ≡ None
  none_given axioms ks a h =
      ap (λ (o : Option (Fact Concept)). if is_among ks a then listed_fact 0 o else None) (none_at axioms (a - 1) h)
      ∙ either_is_none (is_among ks a)

-- the question of a query is the one without individuals
same_question : (axioms : List Numbered) (ks : List ℕ) (q : Query)
    → list_all (λ n. not (is_assertion n.axiom)) axioms ≡ true → q.on ≡ Any
    → question_of 0 axioms ks q ≡ on_any (theory_of axioms ks) q.sub q.sup
same_question axioms ks q h any =
    let node : node_in_question 0 q.on ≡ 0 = ap (node_in_question 0) any in
    λ i. record {
      theory = theory_of axioms ks;
      sub = q.sub;
      sup = q.sup;
      first = 1;
      at = node i;
      fact_of = λ a p. none_given p axioms ks a h i;
    }

alike : (one other : Question) (shapes : List Shape) (lines : List Line) → one ≡ other
    → AreJudgedAlike one other shapes lines
alike one other shapes lines e = record {
  left = λ branches. ap (λ (q : Question). open_after_all q (concept_at shapes) branches lines) e;
  refutes = (
    subst (λ (q : Question). IsRefutation q shapes lines) e,
    subst (λ (q : Question). IsRefutation q shapes lines) (sym e),
  );
  breaks =
      λ place. (
        subst (λ (q : Question). IsBrokenAt q (concept_at shapes) lines place) e,
        subst (λ (q : Question). IsBrokenAt q (concept_at shapes) lines place) (sym e),
      );
}

pub old_stand : OldRefutationsStand
old_stand axioms ks q shapes lines h any =
    alike (question_of 0 axioms ks q) (on_any (theory_of axioms ks) q.sub q.sup) shapes lines
    (same_question axioms ks q h any)
