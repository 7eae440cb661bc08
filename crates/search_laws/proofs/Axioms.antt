-- An interpretation that meets a theory of named axioms, and the facts that they give, meets these axioms.
use Rattle.std.proofs.Common.{◌≡◌, ℕ, suc, ◌+◌, ◌-◌, ◌<◌, ◌&&◌, eqb, leb, Bool, true, false, cond, List, [], ◌∷◌}
use Rattle.std.proofs.Common.{length, get_or, Option, Some, None, refl, ap, ◌∙◌, sym, subst, arith, inl, inr, eq-eqb}
use Rattle.std.specs.Prelude.{slice_get}
use Rattle.std.specs.List.{list_any, list_all, Contains}
use Rattle.std.proofs.lemmas.Bool.{and_from, or_cases, or_left, or_right, le-leb, eqb-true, false≢true}
use Rattle.std.proofs.lemmas.List.{get_or_default}
use Rattle.std.proofs.lemmas.List.Folds.{list_all-append, list_any-append, list_any_at}
use Rattle.shq_terms.specs.Concept.{Concept, top}
use Rattle.shq_terms.specs.Uses.{all_use_listed}
use Rattle.calculus_specs.specs.declared.facts.Fact.{Fact}
use Rattle.shq_terms.specs.declared.axioms.Axiom.{Axiom}
use Rattle.shq_terms.specs.declared.axioms.Axiom.TheVariants.{SubClassOf, EquivalentClasses, DisjointClasses}
use Rattle.shq_terms.specs.declared.axioms.Axiom.TheVariants.{DisjointUnion, SubRole, EquivalentRoles, Domain, Range}
use Rattle.shq_terms.specs.declared.axioms.Axiom.TheVariants.{Functional, Transitive, Member, Pair, SameAll, Different}
use Rattle.shq_terms.specs.declared.axioms.Numbered.{Numbered}
use Rattle.calculus_specs.specs.Rows.{Part, is_among, part_at}
use Rattle.calculus_specs.specs.Rows.Part.{inclusion}
use Rattle.calculus_specs.specs.Roles.{itself, by_step}
use Rattle.ontology_limits.specs.Below.{all_below}
use Rattle.ontology_limits.specs.Truth.{Interpretation, implies, included, roles_equal, meets, meets_all}
use Rattle.ontology_limits.proofs.Members.{all_pass}
use Rattle.ontology_limits.proofs.Implied.{implies_from}
use Rattle.ontology_limits.specs.Parts.{axiom_parts, part_in}
use Rattle.ontology_limits.specs.Meeting.{meets_part, meets_parts, is_true}
use Rattle.ontology_limits.specs.Facts.{facts_of, fact_at}
use Rattle.ontology_limits.proofs.Meeting.{axiom_is_parts}
use Rattle.ontology_limits.proofs.Facts.{assertion_is_facts}
use Rattle.ontology_limits.specs.RoleAxiom.{RoleAxiom}
use Rattle.ontology_limits.specs.RoleAxioms.{role_part, role_part_at, role_axioms}
use Rattle.ontology_limits.specs.Steps.{leads_by, leads, is_transitive_by, is_transitive, is_among as among}
use Rattle.ontology_limits.proofs.Limits.{test_is_below}
use Rattle.refutation_truth.specs.Theory.{axioms_in, named_axioms, parts_in, parts_at, theory_of, fact_in}
use Rattle.refutation_truth.specs.Theory.{fact_of_axiom}
use Rattle.refutation_truth.proofs.Below.{all_from}
use Rattle.refutation_truth.proofs.Lines.{MeetsTheory}
use Rattle.refutation_truth.proofs.NumberedParts.{numbered}
use Rattle.refutation_truth.proofs.Asserted.{all_given}
use Rattle.search_laws.specs.Theories.{MeetsFacts}
use Rattle.search_laws.proofs.GivenFacts.{at_place}

-- what an axiom of one of the numbers says of roles, the axioms of the numbers say
said_among : (axioms : List Numbered) (p : RoleAxiom → Bool) (ls : List ℕ) (k : ℕ) → is_among ls k ≡ true
    → list_any p (role_part_at (slice_get axioms (k - 1))) ≡ true → list_any p (role_axioms axioms ls) ≡ true
said_among axioms p [] k is h = absurd (false≢true is)
said_among axioms p (l ∷ ls) k is h =
    let here_said = list_any p (role_part_at (slice_get axioms (l - 1))) in
    let later_said = list_any p (role_axioms axioms ls) in
    list_any-append p (role_part_at (slice_get axioms (l - 1))) (role_axioms axioms ls)
    ∙ elim (or_cases (eqb l k) (is_among ls k) is) [
      | inl here ↦
          or_left here_said later_said
          (subst (λ (n : ℕ). list_any p (role_part_at (slice_get axioms (n - 1))) ≡ true) (sym (eqb-true l k here)) h)
      | inr later ↦ or_right here_said later_said (said_among axioms p ls k later h)
    ]

-- a test that all facts at the places of a list pass
all_at_places : (p : Fact Concept → Bool) (fs : List (Fact Concept))
    → ((place : ℕ) (f : Fact Concept) → slice_get fs place ≡ Some f → p f ≡ true) → list_all p fs ≡ true
all_at_places p [] each = refl
all_at_places p (f ∷ fs) each =
    and_from (p f) (list_all p fs) (each 0 f refl) (all_at_places p fs (λ place g e. each (suc place) g e))

module _ (i : Interpretation) (classes roles n : ℕ) (axioms : List Numbered) (ks : List ℕ)
    (listed : all_use_listed classes roles n axioms ≡ true) (m : MeetsTheory i (theory_of axioms ks))
    (facts : MeetsFacts (fact_of_axiom n axioms ks) i) where
  -- ---- parts

  part_found : (k p : ℕ) → is_among ks k ≡ true → p < length (parts_at axioms k)
      → part_at (theory_of axioms ks) k (p + 1) ≡ Some (part_in (parts_at axioms k) p)
  part_found k p is lt =
      let e : (p + 1) - 1 ≡ p = omega arith in
      numbered axioms ks k (p + 1)
      ∙ ap (λ (b : Bool). cond b (Some (part_in (parts_at axioms k) ((p + 1) - 1))) None)
      (and_from (is_among ks k && leb 1 (p + 1)) (leb (p + 1) (length (parts_at axioms k)))
      (and_from (is_among ks k) (leb 1 (p + 1)) is (le-leb 1 (p + 1) (omega arith)))
      (le-leb (p + 1) (length (parts_at axioms k)) (omega arith)))
      ∙ ap (λ (n : ℕ). Some (part_in (parts_at axioms k) n)) e

  parts_met : (k : ℕ) → is_among ks k ≡ true → meets_parts i (parts_at axioms k) ≡ true
  parts_met k is = all_pass (meets_part i) (parts_at axioms k) (λ q c.
      let h = m.met k (c.0 + 1) (part_in (parts_at axioms k) c.0) (part_found k c.0 is c.1) in
      subst (λ (p : Part). meets_part i p ≡ true)
      (get_or_default (parts_at axioms k) c.0 (inclusion [] top) q c.1 ∙ c.2) h)

  -- ---- roles

  up_included : (r s : ℕ) → (theory_of axioms ks).below r s ≡ true → included i r s ≡ true
  up_included r s b =
      all_from i.size (λ x. all_below i.size (λ y. implies (i.in_role r x y) (i.in_role s x y)))
      (λ x lt. all_from i.size (λ y. implies (i.in_role r x y) (i.in_role s x y))
      (λ y mt. implies_from (i.in_role r x y) (i.in_role s x y) (m.upward r s b x y lt mt)))

  on_transitive : (t : ℕ) → (theory_of axioms ks).is_transitive t ≡ true → meets i (Transitive t) ≡ true
  on_transitive t tr =
      all_from i.size
      (λ x. all_below i.size
      (λ y. implies (i.in_role t x y) (all_below i.size (λ z. implies (i.in_role t y z) (i.in_role t x z)))))
      (λ x lt. all_from i.size
      (λ y. implies (i.in_role t x y) (all_below i.size (λ z. implies (i.in_role t y z) (i.in_role t x z))))
      (λ y mt. implies_from (i.in_role t x y) (all_below i.size (λ z. implies (i.in_role t y z) (i.in_role t x z)))
      (λ h. all_from i.size (λ z. implies (i.in_role t y z) (i.in_role t x z))
      (λ z nt. implies_from (i.in_role t y z) (i.in_role t x z) (m.onward t tr x y z lt mt nt h)))))

  below_leads : (r s : ℕ) → leads (role_axioms axioms ks) r s ≡ true → (theory_of axioms ks).below r s ≡ true
  below_leads r s h = (test_is_below (role_axioms axioms ks) r s).1 (by_step r r s (itself r) h)

  -- ---- one axiom

  first_among : (r : ℕ) (rs : List ℕ) → among (r ∷ rs) r ≡ true
  first_among r rs = or_left (eqb r r) (among rs r) (eq-eqb r r refl)

  is_member : (rs : List ℕ) (r : ℕ) → Contains rs r → among rs r ≡ true
  is_member rs r c = list_any_at (λ x. eqb x r) rs c.0 r c.1 (eq-eqb (get_or rs c.0 r) r c.2)

  equal_by : (rs : List ℕ) → ((r s : ℕ) → among rs r ≡ true → among rs s ≡ true → included i r s ≡ true)
      → roles_equal i rs ≡ true
  equal_by [] each = refl
  equal_by (q ∷ rs) each = all_pass (λ s. included i q s && included i s q) (q ∷ rs) (λ s c.
      let is = is_member (q ∷ rs) s c in
      and_from (included i q s) (included i s q) (each q s (first_among q rs) is) (each s q is (first_among q rs)))

  -- each fact of the axiom is true
  abbrev HasTrueFacts : Axiom → Type 0
  HasTrueFacts a = (place : ℕ) (f : Fact Concept) → fact_at a place ≡ Some f → is_true i i.individual f ≡ true

  true_facts : (a : Axiom) → HasTrueFacts a → list_all (is_true i i.individual) (facts_of a) ≡ true
  true_facts a each =
      all_at_places (is_true i i.individual) (facts_of a)
      (λ place f e. each (suc place) f (at_place (facts_of a) place ∙ e))

  met_by : (a : Axiom) → HasTrueFacts a
      → ((r s : ℕ) → leads (role_part a) r s ≡ true → leads (role_axioms axioms ks) r s ≡ true)
      → ((t : ℕ) → is_transitive (role_part a) t ≡ true → is_transitive (role_axioms axioms ks) t ≡ true)
      → meets_parts i (axiom_parts a) ≡ true → meets i a ≡ true
  met_by (SubRole r s) each up on h =
      up_included r s
      (below_leads r s
      (up r s (or_left (eqb r r && eqb s s) false (and_from (eqb r r) (eqb s s) (eq-eqb r r refl) (eq-eqb s s refl)))))
  met_by (EquivalentRoles rs) each up on h =
      equal_by rs
      (λ r s is its. up_included r s
      (below_leads r s (up r s (or_left (among rs r && among rs s) false (and_from (among rs r) (among rs s) is its)))))
  met_by (Transitive t) each up on h = on_transitive t (on t (or_left (eqb t t) false (eq-eqb t t refl)))
  met_by (SubClassOf c d) each up on h = axiom_is_parts i (SubClassOf c d) refl refl ∙ h
  met_by (EquivalentClasses cs) each up on h = axiom_is_parts i (EquivalentClasses cs) refl refl ∙ h
  met_by (DisjointClasses cs) each up on h = axiom_is_parts i (DisjointClasses cs) refl refl ∙ h
  met_by (DisjointUnion a cs) each up on h = axiom_is_parts i (DisjointUnion a cs) refl refl ∙ h
  met_by (Domain r c) each up on h = axiom_is_parts i (Domain r c) refl refl ∙ h
  met_by (Range r c) each up on h = axiom_is_parts i (Range r c) refl refl ∙ h
  met_by (Functional r) each up on h = axiom_is_parts i (Functional r) refl refl ∙ h
  met_by (Member c a) each up on h = assertion_is_facts i (Member c a) refl ∙ true_facts (Member c a) each
  met_by (Pair r a b) each up on h = assertion_is_facts i (Pair r a b) refl ∙ true_facts (Pair r a b) each
  met_by (SameAll as_) each up on h = assertion_is_facts i (SameAll as_) refl ∙ true_facts (SameAll as_) each
  met_by (Different as_) each up on h = assertion_is_facts i (Different as_) refl ∙ true_facts (Different as_) each

  at_met : (o : Option Numbered)
      → ((place : ℕ) (f : Fact Concept) → fact_in o place ≡ Some f → is_true i i.individual f ≡ true)
      → ((r s : ℕ) → leads (role_part_at o) r s ≡ true → leads (role_axioms axioms ks) r s ≡ true)
      → ((t : ℕ) → is_transitive (role_part_at o) t ≡ true → is_transitive (role_axioms axioms ks) t ≡ true)
      → meets_parts i (parts_in o) ≡ true → list_all (meets i) (axioms_in o) ≡ true
  at_met None each up on h = refl
  at_met (Some a) each up on h = and_from (meets i a.axiom) true (met_by a.axiom each up on h) refl

  -- ---- the axioms of some of the numbers

  axiom_at_met : (k : ℕ) → is_among ks k ≡ true → list_all (meets i) (axioms_in (slice_get axioms (k - 1))) ≡ true
  axiom_at_met k is =
      at_met (slice_get axioms (k - 1))
      (λ place f e. facts k place f (all_given classes roles n axioms ks k place listed is ∙ e))
      (λ r s h. said_among axioms (λ x. leads_by x r s) ks k is h)
      (λ t h. said_among axioms (λ x. is_transitive_by x t) ks k is h) (parts_met k is)

  some_met : (ls : List ℕ) → ((k : ℕ) → is_among ls k ≡ true → is_among ks k ≡ true)
      → meets_all i (named_axioms axioms ls) ≡ true
  some_met [] each = refl
  some_met (l ∷ ls) each =
      list_all-append (meets i) (axioms_in (slice_get axioms (l - 1))) (named_axioms axioms ls)
      ∙ and_from (list_all (meets i) (axioms_in (slice_get axioms (l - 1)))) (meets_all i (named_axioms axioms ls))
      (axiom_at_met l (each l (or_left (eqb l l) (is_among ls l) (eq-eqb l l refl))))
      (some_met ls (λ k is. each k (or_right (eqb l k) (is_among ls k) is)))

  pub meets_named : meets_all i (named_axioms axioms ks) ≡ true
  meets_named = some_met ks (λ k is. is)
