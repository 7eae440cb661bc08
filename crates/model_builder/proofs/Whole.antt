-- The interpretation of the elements of a saturated trail is the trail's, and a counter-model.
use Rattle.std.proofs.Common.{◌≡◌, ℕ, ◌+◌, ◌<◌, ◌&&◌, ◌||◌, Bool, true, false, List, [], ◌∷◌, length, get_or, refl, ap}
use Rattle.std.proofs.Common.{◌∙◌, sym, subst, arith, inl, inr, eq-eqb}
use Rattle.std.specs.Prelude.{Option, Some, nat_eq, nat_lt, unwrap_or, cond, IsTrue}
use Rattle.std.specs.BTreeMap.{is_at}
use Rattle.std.specs.Map.{lookup}
use Rattle.std.specs.Ordering.{nat_cmp}
use Rattle.std.proofs.lemmas.Bool.Decides.{nat_tests}
use Rattle.std.specs.List.{list_any, list_all}
use Rattle.std.proofs.lemmas.Bool.{cases_eq, cases_lt, and_parts, and_from, ne_eqb, lt-ltb, ltb-true}
use Rattle.std.proofs.lemmas.List.{get_or-map}
use Rattle.std.proofs.lemmas.List.Folds.{list_any_at}
use Rattle.std.proofs.lemmas.List.Sums.{list_all-from_AllPass, AllPass-from_list_all}
use Rattle.shq_terms.specs.Listed.{Listed}
use Rattle.shq_terms.specs.declared.axioms.Query.{Query}
use Rattle.shq_meaning.specs.Truth.{Interpretation}
use Rattle.calculus_specs.specs.Shape.{Shape}
use Rattle.role_box.specs.declared.role_axiom.RoleAxiom.{RoleAxiom}
use Rattle.role_box.specs.RoleAxioms.{role_axioms}
use Rattle.role_box.specs.Paths.{is_below}
use Rattle.search_laws.specs.Limits.{IsInLimit}
use Rattle.finite_model.specs.ModelLists.{ModelLists, IsDomain, meaning, is_member, is_link, individuals_below}
use Rattle.finite_model.specs.ModelLists.{element_at}
use Rattle.finite_model.specs.Written.{uses_listed_names}
use Rattle.calculus_specs.specs.declared.facts.Fact.{Fact}
use Rattle.calculus_specs.specs.State.{node_count_from, is_successor}
use Rattle.tableau_specs.specs.Items.{facts_of}
use Rattle.blocking.specs.Entry.{Entry}
use Rattle.blocking.specs.Entry.TheVariants.{Fact as Grounded, Mark}
use Rattle.blocking.specs.Trail.{facts_in, items_of}
use Rattle.search_laws.specs.Elements.{elements, node_at, original}
use Rattle.search_laws.specs.Built.{IsBuilt}
use Rattle.search_laws.specs.CounterModelLaws.{UsesListed, IsCounterModel}
use Rattle.search_laws.proofs.CounterModelLaws.{saturated_is_counter_model}
use Rattle.model_builder.specs.declared.structure_model.Member.{Member}
use Rattle.model_builder.specs.declared.structure_model.Edge.{Edge}
use Rattle.model_builder.specs.Structure.{IsInterpretation}
use Rattle.search_rules.specs.RuleLists.{RuleLists, numbers_in, context_in}
use Rattle.model_builder.specs.Numbered.{AreNumbered}
use Rattle.model_builder.specs.Collected.{has_class, AreMembers, leads_from, AreElementEdges, ArePlaces, IsOfElements}
use Rattle.model_builder.specs.Saturated.{IsSaturatedTrail}
use Rattle.model_builder.proofs.Built.{structures_are_built}
use Rattle.model_builder.proofs.Numbers.{all_elements}

-- ---- what was collected is that of the elements

module _ (table : List Shape) (roles : List RoleAxiom) (count first : ℕ) (fs : List (Fact ℕ))
    (numbers : List (Option ℕ)) (originals : List ℕ) (size : ℕ) (members : List Member) (edges : List Edge)
    (places : List ℕ) (many : ℕ)
    (numbered : AreNumbered first fs (node_count_from first fs) numbers originals) (all : size ≡ length originals) where
  as_many : size ≡ length (elements first fs)
  as_many = all_elements first fs numbers originals size numbered all

  original_is : (v : ℕ) → v < length (elements first fs) → get_or originals v 0 ≡ original first fs (node_at first fs v)
  original_is v lt =
      ap (λ (os : List ℕ). get_or os v 0) numbered.originals_are
      ∙ get_or-map (original first fs) (elements first fs) v 0 0 lt

  within : (v : ℕ) → v < length (elements first fs) → nat_lt v size ≡ true
  within v lt = lt-ltb v size (omega (arith, as_many))

  pub of_elements : (i : Interpretation) → AreMembers table fs originals size members
      → AreElementEdges first fs originals size edges → ArePlaces first fs many places → many + 1 ≡ first
      → IsInterpretation size count members roles edges places i → IsOfElements table roles count first fs i
  of_elements i has_members has_edges has_places one_more given = record {
    members = members;
    edges = edges;
    places = places;
    are_of_elements = record {
      members_are = λ a v lt.
          has_members a v
          ∙ ap (λ (b : Bool). b && has_class table fs (get_or originals v 0) a) (within v lt)
          ∙ ap (λ (x : ℕ). has_class table fs x a) (original_is v lt);
      edges_are = λ s v u lt mt.
          has_edges (λ r. is_below roles r s) v u
          ∙ ap (λ (b : Bool). b && leads_from first fs (λ r. is_below roles r s) (get_or originals v 0) u) (within v lt)
          ∙ ap
          (λ (b : Bool). b && is_successor fs (λ r. is_below roles r s) (get_or originals v 0) (node_at first fs u))
          (lt-ltb u (length (elements first fs)) mt)
          ∙ ap (λ (x : ℕ). is_successor fs (λ r. is_below roles r s) x (node_at first fs u)) (original_is v lt);
      as_many = omega (arith, has_places.long, one_more);
      places_are = λ a lt. has_places.each a (omega (arith, has_places.long, lt));
    };
    is_interpretation = subst (λ (n : ℕ). IsInterpretation n count members roles edges places i) as_many given;
  }

-- ---- a saturated trail

pub facts_same : (es : List Entry) → facts_of (items_of es) ≡ facts_in es
facts_same [] = refl
facts_same (Grounded f by ∷ es) = ap (λ (fs : List (Fact ℕ)). f ∷ fs) (facts_same es)
facts_same (Mark c ∷ es) = facts_same es

module _ (r : RuleLists) (q : Query) (es : List Entry) (i : Interpretation) (limit : IsInLimit r.ontology q)
    (saturated : IsSaturatedTrail r q (items_of es)) where
  abbrev roles : List RoleAxiom
  roles = role_axioms r.ontology.axioms (numbers_in r)

  abbrev count : ℕ
  count = length r.ontology.roles

  abbrev first : ℕ
  first = (context_in r).first

  at_trail : IsOfElements r.table roles count first (facts_of (items_of es)) i
      → IsBuilt (context_in r) (facts_of (items_of es)) i
  at_trail given =
      structures_are_built r.ontology (numbers_in r) q r.table (context_in r).rows saturated.steps (items_of es)
      given.members given.edges given.places i limit saturated.reached
      (record {
        members_are = given.are_of_elements.members_are;
        edges_are = given.are_of_elements.edges_are;
        as_many = given.are_of_elements.as_many;
        places_are = given.are_of_elements.places_are;
      })
      given.is_interpretation

  trail_is_built : IsOfElements r.table roles count first (facts_in es) i → IsBuilt (context_in r) (facts_in es) i
  trail_is_built =
      subst (λ (fs : List (Fact ℕ)). IsOfElements r.table roles count first fs i → IsBuilt (context_in r) fs i)
      (facts_same es) at_trail

  pub built_by : (table : List Shape) (given : List RoleAxiom) (many first' : ℕ) → table ≡ r.table
      → given ≡ role_axioms r.ontology.axioms (numbers_in r) → many ≡ length r.ontology.roles
      → first' ≡ (context_in r).first → IsOfElements table given many first' (facts_in es) i
      → IsBuilt (context_in r) (facts_in es) i
  built_by table given many first' t g m f has =
      trail_is_built
      (let same : IsOfElements table given many first' (facts_in es) i
      ≡ IsOfElements r.table roles count first (facts_in es) i =
      (λ j. IsOfElements (t j) (g j) (m j) (f j) (facts_in es) i) in
      coe' same has)
    where
      coe' : {A B : Type 0} → A ≡ B → A → B
      coe' e a = subst (λ (X : Type 0). X) e a

  pub is_counter_model : IsBuilt (context_in r) (facts_in es) i → IsCounterModel r.ontology (numbers_in r) q i
  is_counter_model built =
      saturated_is_counter_model r.ontology (numbers_in r) q r.table (context_in r).rows saturated.steps (items_of es) i
      (record {
        in_limit = limit;
        reached = saturated.reached;
        is_saturated = saturated.is_saturated;
        is_built = subst (λ (fs : List (Fact ℕ)). IsBuilt (context_in r) fs i) (sym (facts_same es)) built;
      })

-- ---- names that are listed

member_itself : (m : ℕ × ℕ) → is_member m.0 m.1 m ≡ true
member_itself m = and_from (nat_eq m.0 m.0) (nat_eq m.1 m.1) (eq-eqb m.0 m.0 refl) (eq-eqb m.1 m.1 refl)

link_itself : (l : ℕ × ℕ × ℕ) → is_link l.0 l.1 l.2 l ≡ true
link_itself l =
    and_from (nat_eq l.0 l.0 && nat_eq l.1 l.1) (nat_eq l.2 l.2)
    (and_from (nat_eq l.0 l.0) (nat_eq l.1 l.1) (eq-eqb l.0 l.0 refl) (eq-eqb l.1 l.1 refl)) (eq-eqb l.2 l.2 refl)

-- an individual that is kept is another element than 0
kept_is_other : (size : ℕ) (ps : List (ℕ × ℕ)) → individuals_below size ps ≡ true → (a : ℕ)
    → list_any (λ p. nat_eq p.0 a) ps ≡ true → 0 < element_at ps a
kept_is_other size [] inside a h = cc
kept_is_other size (p ∷ ps) inside a h =
    let below = and_parts (nat_lt 0 p.1 && nat_lt p.1 size) (individuals_below size ps) inside in
    let some : 0 < p.1 = ltb-true 0 p.1 (and_parts (nat_lt 0 p.1) (nat_lt p.1 size) below.0).0 in
    let taken : ℕ → Bool → ℕ = λ d b. unwrap_or (cond b (Some p.1) (lookup (is_at (nat_cmp a)) ps)) d in
    elim (cases_eq p.0 a) [
      | inl is ↦
          let here : is_at (nat_cmp a) p.0 ≡ true = grind (arith, nat_tests) in
          let first : element_at (p ∷ ps) a ≡ p.1 = ap (taken 0) here in
          omega (arith, some, first)
      | inr isnt ↦
          let other : is_at (nat_cmp a) p.0 ≡ false = grind (arith, nat_tests) in
          let next : element_at (p ∷ ps) a ≡ element_at ps a = ap (taken 0) other in
          let later =
          kept_is_other size ps below.1 a
          (ap (λ (b : Bool). b || list_any (λ p. nat_eq p.0 a) ps) (sym (ne_eqb p.0 a isnt)) ∙ h) in
          omega (arith, later, next)
    ]

module _ (o : Listed) (k : ModelLists) (uses : UsesListed o (meaning k))
    (domain : IsDomain k.size k.members k.links k.individuals) where
  members_listed : list_all (λ m. nat_lt m.0 (length o.classes)) k.members ≡ true
  members_listed = list_all-from_AllPass (λ (m : ℕ × ℕ). nat_lt m.0 (length o.classes)) k.members (λ n d lt.
      let m = get_or k.members n d in
      let inside = AllPass-from_list_all (λ (p : ℕ × ℕ). nat_lt p.1 k.size) k.members domain.members_inside n d lt in
      lt-ltb m.0 (length o.classes) (uses.class_is m.0 m.1 (ltb-true m.1 k.size inside)
      (list_any_at (is_member m.0 m.1) k.members n d lt (member_itself m))))

  links_listed : list_all (λ l. nat_lt l.0 (length o.roles)) k.links ≡ true
  links_listed = list_all-from_AllPass (λ (l : ℕ × ℕ × ℕ). nat_lt l.0 (length o.roles)) k.links (λ n d lt.
      let l = get_or k.links n d in
      let inside =
      and_parts (nat_lt l.1 k.size) (nat_lt l.2 k.size)
      (AllPass-from_list_all (λ (p : ℕ × ℕ × ℕ). nat_lt p.1 k.size && nat_lt p.2 k.size) k.links domain.links_inside n d
      lt) in
      lt-ltb l.0 (length o.roles)
      (uses.role_is l.0 l.1 l.2 (ltb-true l.1 k.size inside.0) (ltb-true l.2 k.size inside.1)
      (list_any_at (is_link l.0 l.1 l.2) k.links n d lt (link_itself l))))

  individuals_listed : list_all (λ p. nat_lt p.0 (length o.individuals)) k.individuals ≡ true
  individuals_listed = list_all-from_AllPass (λ (p : ℕ × ℕ). nat_lt p.0 (length o.individuals)) k.individuals (λ n d lt.
      let a = (get_or k.individuals n d).0 in
      let other =
      kept_is_other k.size k.individuals domain.individuals_inside a
      (list_any_at (λ (p : ℕ × ℕ). nat_eq p.0 a) k.individuals n d lt (eq-eqb a a refl)) in
      elim (cases_lt a (length o.individuals)) [
        | inl less ↦ lt-ltb a (length o.individuals) less
        | inr past ↦ absurd (omega (arith, other, uses.individual_is a past))
      ])

  pub names_listed : IsTrue (uses_listed_names o k)
  names_listed =
      and_from
      (list_all (λ m. nat_lt m.0 (length o.classes)) k.members && list_all (λ l. nat_lt l.0 (length o.roles)) k.links)
      (list_all (λ p. nat_lt p.0 (length o.individuals)) k.individuals)
      (and_from (list_all (λ m. nat_lt m.0 (length o.classes)) k.members)
      (list_all (λ l. nat_lt l.0 (length o.roles)) k.links) members_listed links_listed)
      individuals_listed
