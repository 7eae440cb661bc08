-- What axioms within the limits give to a search is allowed, and the rules keep it so: their parts and the rows of
-- these, and the roles above those that are listed.
use Rattle.std.proofs.Common.{◌≡◌, ℕ, zero, suc, ◌+◌, ◌-◌, ◌<◌, ◌&&◌, eqb, ltb, Bool, true, false, cond, List, [], ◌∷◌}
use Rattle.std.proofs.Common.{◌++◌, map, Some, None, refl, ap, ◌∙◌, sym, subst, arith, inl, inr}
use Rattle.std.specs.List.{list_any, list_all, find, slice_get, Contains}
use Rattle.std.specs.Option.{option_map}
use Rattle.std.proofs.lemmas.Bool.{cases_Bool, and_parts, and_from, or_cases, eqb-true, ltb-true, lt-ltb, false≢true}
use Rattle.std.proofs.lemmas.List.Folds.{list_all-append, list_any-append}
use Rattle.shq_terms.specs.Concept.{Concept, top, union, some_of, at_most, complement, parts_of}
use Rattle.shq_terms.proofs.Bools.{or_only}
use Rattle.shq_terms.specs.Uses.{uses_listed, parts_use_listed, axiom_uses_listed, all_use_listed}
use Rattle.shq_terms.specs.declared.axioms.Axiom.{Axiom}
use Rattle.shq_terms.specs.declared.axioms.Axiom.TheVariants.{SubClassOf, EquivalentClasses, DisjointClasses}
use Rattle.shq_terms.specs.declared.axioms.Axiom.TheVariants.{DisjointUnion, SubRole, EquivalentRoles, Domain, Range}
use Rattle.shq_terms.specs.declared.axioms.Axiom.TheVariants.{Functional, Transitive, Member, Pair, SameAll, Different}
use Rattle.shq_terms.specs.declared.axioms.Numbered.{Numbered}
use Rattle.calculus_specs.specs.Normal.{normal_form, negated_form}
use Rattle.calculus_specs.specs.Rows.{Part, NumberedPart, is_among, is_numbered, part_at, others_from, row_concept}
use Rattle.calculus_specs.specs.Rows.{are_name_positions, is_some_of, row_of, Trigger, inclusion_of}
use Rattle.calculus_specs.specs.Rows.Part.{inclusion, range}
use Rattle.calculus_specs.specs.Rows.Trigger.{always, names, edge, end_of}
use Rattle.calculus_specs.specs.Roles.{IsBelow, itself, by_step}
use Rattle.calculus_specs.specs.declared.facts.Fact.TheVariants.{Has, Edge}
use Rattle.ontology_limits.specs.Parts.{disjoint_parts, chain_parts, equivalent_parts, union_parts, axiom_parts}
use Rattle.ontology_limits.specs.Counted.{counted_roles, counted_in, counted_by}
use Rattle.ontology_limits.specs.RoleAxiom.{RoleAxiom}
use Rattle.ontology_limits.specs.RoleAxioms.{role_part, role_part_at, role_axioms}
use Rattle.ontology_limits.specs.Steps.{is_among as among, leads_by, leads, Leads, is_transitive_by, is_transitive}
use Rattle.ontology_limits.proofs.Limits.{test_is_below}
use Rattle.refutation_truth.specs.Theory.{parts_in, parts_at, numbered_parts, named_parts, theory_of, fact_of_axiom}
use Rattle.tableau_specs.specs.KeptKinds.{IsKept}
use Rattle.search_laws.proofs.CounterModelNodes.{all_in}
use Rattle.search_laws.proofs.AllowedFacts.{given_allowed}
use Rattle.search_laws.proofs.Allowed.{IsAllowed, AreAllowed, to_parts, allowed_parts_of, allowed_append}
use Rattle.search_laws.proofs.Allowed.{allowed_conjuncts_in, allowed_or, used_parts, counted_parts, allowed_normal}
use Rattle.search_laws.proofs.Allowed.{allowed_negated}

some_if : (b : Bool) (x t : Concept) → cond b (Some x) None ≡ Some t → x ≡ t
some_if true x t h = cc
some_if false x t h = cc

module _ (classes roles individuals : ℕ) (p : ℕ → Bool) where
  abbrev Allowed : Concept → Type 0
  Allowed = IsAllowed classes roles p

  abbrev AllAllowed : List Concept → Type 0
  AllAllowed = AreAllowed classes roles p

  abbrev pub PartAllowed : Part → Type 0
  PartAllowed (inclusion cs d) = AreAllowed classes roles p cs × IsAllowed classes roles p d
  PartAllowed (range r d) = IsAllowed classes roles p d

  -- ---- rows

  others_allowed : (cs : List Concept) (positions : List ℕ) (first : ℕ) → AllAllowed cs
      → AllAllowed (map negated_form (others_from first positions cs))
  others_allowed [] positions first h = tt
  others_allowed (c ∷ cs) positions first h =
      elim (is_among positions first) as
      (λ b. AllAllowed
      (map negated_form (cond b (others_from (first + 1) positions cs) (c ∷ others_from (first + 1) positions cs)))) [
        | true ↦ others_allowed cs positions (first + 1) h.1
        | false ↦ (allowed_negated classes roles p c h.0, others_allowed cs positions (first + 1) h.1)
      ]

  row_allowed : (cs : List Concept) (d : Concept) (positions : List ℕ) → AllAllowed cs → Allowed d
      → Allowed (row_concept cs d positions)
  row_allowed cs d positions h k =
      allowed_or classes roles p (map negated_form (others_from 1 positions cs) ++ d ∷ [])
      (allowed_append classes roles p (map negated_form (others_from 1 positions cs)) (d ∷ [])
      (others_allowed cs positions 1 h) (k, tt))

  part_row_allowed : (q : Part) (t : Trigger) (c : Concept) → PartAllowed q → row_of q t ≡ Some c → Allowed c
  part_row_allowed (inclusion cs d) always c h e =
      let is : row_concept cs d [] ≡ c = cc in subst Allowed is (row_allowed cs d [] h.0 h.1)
  part_row_allowed (inclusion cs d) (names ps) c h e =
      subst Allowed (some_if (are_name_positions cs ps) (row_concept cs d ps) c e) (row_allowed cs d ps h.0 h.1)
  part_row_allowed (inclusion cs d) (edge s) c h e =
      subst Allowed (some_if (list_any (is_some_of s) cs) (row_concept cs d []) c e) (row_allowed cs d [] h.0 h.1)
  part_row_allowed (inclusion cs d) (end_of s) c h e = absurd (cc)
  part_row_allowed (range r d) (end_of s) c h e = subst Allowed (some_if (eqb s r) d c e) h
  part_row_allowed (range r d) always c h e = absurd (cc)
  part_row_allowed (range r d) (names ps) c h e = absurd (cc)
  part_row_allowed (range r d) (edge s) c h e = absurd (cc)

  -- ---- the parts of axioms

  inclusion_allowed : (c d : Concept) → Allowed c → Allowed d → PartAllowed (inclusion_of c d)
  inclusion_allowed c d h k = (
    allowed_conjuncts_in classes roles p (normal_form c) (allowed_normal classes roles p c h),
    allowed_normal classes roles p d k,
  )

  abbrev EachAllowed : List Part → Type 0
  EachAllowed [] = Unit {0}
  EachAllowed (q ∷ qs) = PartAllowed q × EachAllowed qs

  each_append : (qs rs : List Part) → EachAllowed qs → EachAllowed rs → EachAllowed (qs ++ rs)
  each_append [] rs h k = k
  each_append (q ∷ qs) rs h k = (h.0, each_append qs rs h.1 k)

  aparts_allowed : (c : Concept) (cs : List Concept) → Allowed c → AllAllowed cs
      → EachAllowed (map (λ d. inclusion_of c (complement d)) cs)
  aparts_allowed c [] h k = tt
  aparts_allowed c (d ∷ cs) h k = (inclusion_allowed c (complement d) h k.0, aparts_allowed c cs h k.1)

  disjoint_allowed : (cs : List Concept) → AllAllowed cs → EachAllowed (disjoint_parts cs)
  disjoint_allowed [] h = tt
  disjoint_allowed (c ∷ cs) h =
      each_append (map (λ d. inclusion_of c (complement d)) cs) (disjoint_parts cs) (aparts_allowed c cs h.0 h.1)
      (disjoint_allowed cs h.1)

  chain_allowed : (first : Concept) (cs : List Concept) → Allowed first → AllAllowed cs
      → EachAllowed (chain_parts first cs)
  chain_allowed first [] f h = tt
  chain_allowed first (c ∷ []) f h = (inclusion_allowed c first h.0 f, tt)
  chain_allowed first (c ∷ d ∷ ds) f h = (inclusion_allowed c d h.0 h.1.0, chain_allowed first (d ∷ ds) f h.1)

  equivalent_allowed : (cs : List Concept) → AllAllowed cs → EachAllowed (equivalent_parts cs)
  equivalent_allowed [] h = tt
  equivalent_allowed (c ∷ cs) h = chain_allowed c (c ∷ cs) h.0 h

  insides_allowed : (a : Concept) (cs : List Concept) → Allowed a → AllAllowed cs
      → EachAllowed (map (λ c. inclusion_of c a) cs)
  insides_allowed a [] h k = tt
  insides_allowed a (c ∷ cs) h k = (inclusion_allowed c a k.0 h, insides_allowed a cs h k.1)

  union_allowed : (a : Concept) (cs : List Concept) → Allowed a → AllAllowed cs → EachAllowed (union_parts a cs)
  union_allowed a cs h k = (
    inclusion_allowed a (union (parts_of cs)) h (to_parts classes roles p cs k),
    each_append (map (λ c. inclusion_of c a) cs) (disjoint_parts cs) (insides_allowed a cs h k) (disjoint_allowed cs k),
  )

  in_two : (xs ys : List ℕ) → list_all p (xs ++ ys) ≡ true → (list_all p xs ≡ true) × (list_all p ys ≡ true)
  in_two xs ys h = and_parts (list_all p xs) (list_all p ys) (sym (list_all-append p xs ys) ∙ h)

  -- the names of the axiom are listed, and it counts roles of the kind alone
  abbrev AxiomAllowed : Axiom → Type 0
  AxiomAllowed a = (axiom_uses_listed classes roles individuals a ≡ true) × (list_all p (counted_by a) ≡ true)

  axiom_allowed : (a : Axiom) → AxiomAllowed a → EachAllowed (axiom_parts a)
  axiom_allowed (SubClassOf c d) h =
      let t = and_parts (uses_listed classes roles c) (uses_listed classes roles d) h.0 in
      let u = in_two (counted_roles c) (counted_roles d) h.1 in
      (inclusion_allowed c d (t.0, u.0) (t.1, u.1), tt)
  axiom_allowed (EquivalentClasses cs) h = equivalent_allowed cs (allowed_parts_of classes roles p cs h)
  axiom_allowed (DisjointClasses cs) h = disjoint_allowed cs (allowed_parts_of classes roles p cs h)
  axiom_allowed (DisjointUnion c cs) h =
      let t = and_parts (uses_listed classes roles c) (parts_use_listed classes roles (parts_of cs)) h.0 in
      let u = in_two (counted_roles c) (counted_in (parts_of cs)) h.1 in
      union_allowed c cs (t.0, u.0) (allowed_parts_of classes roles p cs (t.1, u.1))
  axiom_allowed (SubRole r s) h = tt
  axiom_allowed (EquivalentRoles rs) h = tt
  axiom_allowed (Domain r c) h =
      let t = and_parts (ltb r roles) (uses_listed classes roles c) h.0 in
      (inclusion_allowed (some_of r top) c (and_from (ltb r roles) true t.0 refl, refl) (t.1, h.1), tt)
  axiom_allowed (Range r c) h =
      let t = and_parts (ltb r roles) (uses_listed classes roles c) h.0 in
      (allowed_normal classes roles p c (t.1, h.1), tt)
  axiom_allowed (Functional r) h =
      (inclusion_allowed top (at_most 1 r top) (refl, refl) (and_from (ltb r roles) true h.0 refl, h.1), tt)
  axiom_allowed (Transitive r) h = tt
  axiom_allowed (Member c a) h = tt
  axiom_allowed (Pair v a b) h = tt
  axiom_allowed (SameAll as_) h = tt
  axiom_allowed (Different as_) h = tt

  -- the same of all axioms
  abbrev pub AxiomsAllowed : List Numbered → Type 0
  AxiomsAllowed axioms = (all_use_listed classes roles individuals axioms ≡ true)
      × (list_all (λ (a : Numbered). list_all p (counted_by a.axiom)) axioms ≡ true)

  first_axiom : (a : Numbered) (axioms : List Numbered) → AxiomsAllowed (a ∷ axioms)
      → AxiomAllowed a.axiom × AxiomsAllowed axioms
  first_axiom a axioms h =
      let t =
      and_parts (axiom_uses_listed classes roles individuals a.axiom) (all_use_listed classes roles individuals axioms)
      h.0 in
      let u =
      and_parts (list_all p (counted_by a.axiom)) (list_all (λ (b : Numbered). list_all p (counted_by b.axiom)) axioms)
      h.1 in
      ((t.0, u.0), (t.1, u.1))

  in_allowed : (axioms : List Numbered) (n : ℕ) → AxiomsAllowed axioms → EachAllowed (parts_in (slice_get axioms n))
  in_allowed [] n h = tt
  in_allowed (a ∷ axioms) zero h = axiom_allowed a.axiom (first_axiom a axioms h).0
  in_allowed (a ∷ axioms) (suc n) h = in_allowed axioms n (first_axiom a axioms h).1

  abbrev NumberedAllowed : List NumberedPart → Type 0
  NumberedAllowed [] = Unit {0}
  NumberedAllowed (n ∷ ns) = PartAllowed n.part × NumberedAllowed ns

  numbered_allowed : (k first : ℕ) (qs : List Part) → EachAllowed qs → NumberedAllowed (numbered_parts k first qs)
  numbered_allowed k first [] h = tt
  numbered_allowed k first (q ∷ qs) h = (h.0, numbered_allowed k (first + 1) qs h.1)

  numbered_append : (ns ms : List NumberedPart) → NumberedAllowed ns → NumberedAllowed ms → NumberedAllowed (ns ++ ms)
  numbered_append [] ms h k = k
  numbered_append (n ∷ ns) ms h k = (h.0, numbered_append ns ms h.1 k)

  named_allowed : (axioms : List Numbered) (ks : List ℕ) → AxiomsAllowed axioms
      → NumberedAllowed (named_parts axioms ks)
  named_allowed axioms [] h = tt
  named_allowed axioms (k ∷ ks) h =
      numbered_append (numbered_parts k 1 (parts_at axioms k)) (named_parts axioms ks)
      (numbered_allowed k 1 (parts_at axioms k) (in_allowed axioms (k - 1) h)) (named_allowed axioms ks h)

  found_allowed : (test : NumberedPart → Bool) (ns : List NumberedPart) (q : Part) → NumberedAllowed ns
      → option_map (λ n. n.part) (find test ns) ≡ Some q → PartAllowed q
  found_allowed test [] q h e = cc
  found_allowed test (n ∷ ns) q h e = elim (cases_Bool (test n)) [
    | inl hit ↦
        let at : option_map (λ (m : NumberedPart). m.part) (find test (n ∷ ns)) ≡ Some n.part =
        ap (λ (t : Bool). option_map (λ (m : NumberedPart). m.part) (cond t (Some n) (find test ns))) hit in
        let same : n.part ≡ q = cc in
        subst PartAllowed same h.0
    | inr miss ↦
        let at : option_map (λ (m : NumberedPart). m.part) (find test (n ∷ ns))
        ≡ option_map (λ (m : NumberedPart). m.part) (find test ns) =
        ap (λ (t : Bool). option_map (λ (m : NumberedPart). m.part) (cond t (Some n) (find test ns))) miss in
        found_allowed test ns q h.1 (sym at ∙ e)
  ]

  theory_allowed : (axioms : List Numbered) (ks : List ℕ) → AxiomsAllowed axioms → (a k : ℕ) (q : Part)
      → part_at (theory_of axioms ks) a k ≡ Some q → PartAllowed q
  theory_allowed axioms ks h a k q e =
      found_allowed (is_numbered a k) (named_parts axioms ks) q (named_allowed axioms ks h) e

  -- ---- roles

  step_listed : (a : Axiom) (r s : ℕ) → axiom_uses_listed classes roles individuals a ≡ true
      → leads (role_part a) r s ≡ true → s < roles
  step_listed (SubRole lower upper) r s h l =
      let t = and_parts (ltb lower roles) (ltb upper roles) h in
      let e = and_parts (eqb lower r) (eqb upper s) (or_only (eqb lower r && eqb upper s) l) in
      omega (arith, ltb-true upper roles t.1, eqb-true upper s e.1)
  step_listed (EquivalentRoles rs) r s h l =
      let e = and_parts (among rs r) (among rs s) (or_only (among rs r && among rs s) l) in
      ltb-true s roles (all_in (λ x. ltb x roles) rs s h e.1)
  step_listed (SubClassOf c d) r s h l = cc
  step_listed (EquivalentClasses cs) r s h l = cc
  step_listed (DisjointClasses cs) r s h l = cc
  step_listed (DisjointUnion c cs) r s h l = cc
  step_listed (Domain v c) r s h l = cc
  step_listed (Range v c) r s h l = cc
  step_listed (Functional v) r s h l = cc
  step_listed (Transitive v) r s h l = cc
  step_listed (Member c a) r s h l = cc
  step_listed (Pair v a b) r s h l = cc
  step_listed (SameAll as_) r s h l = cc
  step_listed (Different as_) r s h l = cc

  transitive_listed : (a : Axiom) (t : ℕ) → axiom_uses_listed classes roles individuals a ≡ true
      → is_transitive (role_part a) t ≡ true → t < roles
  transitive_listed (Transitive r) t h l = omega (arith, ltb-true r roles h, eqb-true r t (or_only (eqb r t) l))
  transitive_listed (SubClassOf c d) t h l = cc
  transitive_listed (EquivalentClasses cs) t h l = cc
  transitive_listed (DisjointClasses cs) t h l = cc
  transitive_listed (DisjointUnion c cs) t h l = cc
  transitive_listed (SubRole v q) t h l = cc
  transitive_listed (EquivalentRoles rs) t h l = cc
  transitive_listed (Domain v c) t h l = cc
  transitive_listed (Range v c) t h l = cc
  transitive_listed (Functional v) t h l = cc
  transitive_listed (Member c a) t h l = cc
  transitive_listed (Pair v a b) t h l = cc
  transitive_listed (SameAll as_) t h l = cc
  transitive_listed (Different as_) t h l = cc

  -- what follows from each axiom with listed names that says something of roles, follows where some of the axioms say
  -- it
  module _ (says : RoleAxiom → Bool) (Q : Type 0)
      (one : (a : Axiom) → axiom_uses_listed classes roles individuals a ≡ true → list_any says (role_part a) ≡ true
      → Q) where
    by_one : (axioms : List Numbered) (n : ℕ) → all_use_listed classes roles individuals axioms ≡ true
        → list_any says (role_part_at (slice_get axioms n)) ≡ true → Q
    by_one [] n h l = absurd (false≢true l)
    by_one (a ∷ axioms) zero h l =
        one a.axiom
        (and_parts (axiom_uses_listed classes roles individuals a.axiom)
        (all_use_listed classes roles individuals axioms) h).0
        l
    by_one (a ∷ axioms) (suc n) h l =
        by_one axioms n
        (and_parts (axiom_uses_listed classes roles individuals a.axiom)
        (all_use_listed classes roles individuals axioms) h).1
        l

    by_some : (axioms : List Numbered) (ks : List ℕ) → all_use_listed classes roles individuals axioms ≡ true
        → list_any says (role_axioms axioms ks) ≡ true → Q
    by_some axioms [] h l = absurd (false≢true l)
    by_some axioms (k ∷ ks) h l =
        elim (or_cases (list_any says (role_part_at (slice_get axioms (k - 1)))) (list_any says (role_axioms axioms ks))
        (sym (list_any-append says (role_part_at (slice_get axioms (k - 1))) (role_axioms axioms ks)) ∙ l)) [
          | inl here ↦ by_one axioms (k - 1) h here
          | inr later ↦ by_some axioms ks h later
        ]

  module _ (axioms : List Numbered) (h : all_use_listed classes roles individuals axioms ≡ true) where
    leads_listed : (ks : List ℕ) (r s : ℕ) → leads (role_axioms axioms ks) r s ≡ true → s < roles
    leads_listed ks r s l = by_some (λ a. leads_by a r s) (s < roles) (λ a. step_listed a r s) axioms ks h l

    all_transitive_listed : (ks : List ℕ) (t : ℕ) → is_transitive (role_axioms axioms ks) t ≡ true → t < roles
    all_transitive_listed ks t l =
        by_some (λ a. is_transitive_by a t) (t < roles) (λ a. transitive_listed a t) axioms ks h l

    above_listed : (ks : List ℕ) (r s : ℕ) → r < roles → IsBelow (Leads (role_axioms axioms ks)) r s → s < roles
    above_listed ks r r' lt (itself s) = lt
    above_listed ks r r' lt (by_step a b c below step) = leads_listed ks b c step

    -- a role above a listed one is listed
    pub upper_listed : (ks : List ℕ) (r s : ℕ) → r < roles → (theory_of axioms ks).below r s ≡ true → s < roles
    upper_listed ks r s lt b = above_listed ks r s lt ((test_is_below (role_axioms axioms ks) r s).0 b)

  -- ---- what the rules keep

  contained_allowed : (cs : List Concept) (c : Concept) → AllAllowed cs → Contains cs c → Allowed c
  contained_allowed [] c h k = absurd (omega (arith, k.1))
  contained_allowed (d ∷ cs) c h (zero, lt, is) = subst Allowed is h.0
  contained_allowed (d ∷ cs) c h (suc k, lt, is) = contained_allowed cs c h.1 (k, omega arith, is)

  pub allowed_kept : (k : ℕ) (axioms : List Numbered) (ks : List ℕ) → AxiomsAllowed axioms
      → IsKept (theory_of axioms ks) (fact_of_axiom k axioms ks) (IsAllowed classes roles p) (λ r. ltb r roles ≡ true)
  allowed_kept k axioms ks all = record {
    top_is = (refl, refl);
    conjunct = λ cs c h m. contained_allowed cs c (allowed_parts_of classes roles p cs h) m;
    disjunct = λ cs c h m. contained_allowed cs c (allowed_parts_of classes roles p cs h) m;
    filler_of_some = λ r c h. (used_parts classes roles p r c h).1;
    filler_of_all = λ r c h. (used_parts classes roles p r c h).1;
    filler_of_least = λ n r c h. (counted_parts classes roles p r c h).1;
    filler_of_most = λ n r c h. (counted_parts classes roles p r c h).1;
    complement_of_most = λ n r c h. allowed_negated classes roles p c (counted_parts classes roles p r c h).1;
    carried = λ s t c h tr b.
        let filler = (used_parts classes roles p s c h).1 in (
          and_from (ltb t roles) (uses_listed classes roles c)
              (lt-ltb t roles (all_transitive_listed axioms all.0 ks t tr)) filler.0,
          filler.1,
        );
    row = λ a n q t c there is. part_row_allowed q t c (theory_allowed axioms ks all a n q there) is;
    member = λ a n x c there. given_allowed classes roles individuals p k axioms ks all.0 all.1 a n (Has x c) there;
    pair = λ a n r x y there. given_allowed classes roles individuals p k axioms ks all.0 all.1 a n (Edge r x y) there;
    edge_of_some = λ r c h. (used_parts classes roles p r c h).0;
    edge_of_least = λ n r c h. (counted_parts classes roles p r c h).0.0;
  }
