-- What queries and class expressions are whose tests hold.
use Rattle.std.proofs.Common.{◌≡◌, ℕ, true, false, ◌&&◌, List, [], ◌∷◌, length, Option, Some, None, Ok, refl, ap, sym}
use Rattle.std.proofs.Common.{◌∙◌, subst, codes}
use Rattle.std.specs.Prelude.{nat_eq, nat_lt}
use Rattle.std.specs.List.{list_all}
use Rattle.std.proofs.lemmas.Bool.{and_parts, and_from}
use Rattle.shq_terms.specs.Concept.{Concept, top, bottom, Parts, part}
use Rattle.shq_terms.specs.Uses.{uses_listed, parts_use_listed}
use Rattle.shq_terms.specs.declared.axioms.On.{On}
use Rattle.shq_terms.specs.declared.axioms.On.TheVariants.{Any, Individual}
use Rattle.shq_terms.specs.declared.axioms.Query.{Query}
use Rattle.ontology_limits.specs.Counts.{has_counts_within}
use Rattle.ontology_limits.specs.Limits.{has_enough_parts, is_on_listed}
use Rattle.ofn_tree.specs.Items.{Item, name_item, iri_item, literal_item, sign_item, group_item, Items, no_items, item}
use Rattle.ofn_tree.specs.Items.{items_of}
use Rattle.ofn_expressions.specs.Counts.{Counts}
use Rattle.ofn_expressions.specs.Constructs.{excluded_axiom}
use Rattle.ofn_expressions.specs.Walk.{shape, outside, walked}
use Rattle.ofn_expressions.specs.Names.{Prefix, item_line}
use Rattle.ofn_expressions.specs.Classes.{item_count, each_class, joined, class_tests, concept_of, concepts_of, Keeps}
use Rattle.ofn_expressions.specs.Individuals.{individuals_tests, individual_of, individuals_of}
use Rattle.ofn_expressions.specs.declared.construct.Construct.{Construct}
use Rattle.ofn_reader.specs.Keywords.{axiom_keyword, axiom_else}
use Rattle.ofn_reader.specs.Groups.{without_annotations}
use Rattle.ofn_reader.specs.Axioms.{class_and_individual_tests}
use Rattle.ofn_reader.specs.Queries.{query_group_tests, axiom_query_tests, nothing_tests, query_form_tests}
use Rattle.ofn_reader.specs.Queries.{class_form_tests, pair_in, member_in, query_in, first_query, first_class}
use Rattle.text_laws.proofs.Whole.{is_whole, are_whole, whole_is}
use Rattle.text_laws.proofs.GoodTokens.{IsGoodItem, AreGoodItems}
use Rattle.text_laws.proofs.GoodNames.{AreGoodPrefixes}
use Rattle.text_laws.proofs.Counting.{IsWithin, held, both, never, nothing_held, keeps_before}
use Rattle.text_laws.proofs.Words.{keyword_words}
use Rattle.text_laws.proofs.ReadClasses.{class_read, individuals_read, all_classes_read, parts_read}
use Rattle.text_laws.proofs.ReadAxioms.{plain_good}

-- the expressions of a query and its individual are within the limits, over the names of some counts
pub record IsAsked (ps : List Prefix) (f s new : Counts) (q : Query) : Type 0 where
  pub within : AreGoodPrefixes ps → IsWithin s → IsWithin new
  pub listed :
      (uses_listed (length f.classes) (length f.roles) q.sub && uses_listed (length f.classes) (length f.roles) q.sup)
      ≡ true
  pub items : (has_enough_parts q.sub && has_enough_parts q.sup) ≡ true
  pub counts : (has_counts_within 100 q.sub && has_counts_within 100 q.sup) ≡ true
  pub on_listed : is_on_listed (length f.individuals) q.on ≡ true

-- the limits of an expression, by the test of both
both_parts : (c : Concept) → is_whole c ≡ true → (has_enough_parts c ≡ true) × (has_counts_within 100 c ≡ true)
both_parts c h = and_parts (has_enough_parts c) (has_counts_within 100 c) (sym (whole_is c) ∙ h)

asked : (ps : List Prefix) (f s new : Counts) (c d : Concept) (on : On) → is_on_listed (length f.individuals) on ≡ true
    → (AreGoodPrefixes ps → IsWithin s → IsWithin new) → uses_listed (length f.classes) (length f.roles) c ≡ true
    → uses_listed (length f.classes) (length f.roles) d ≡ true → is_whole c ≡ true → is_whole d ≡ true
    → IsAsked ps f s new (record { sub = c; sup = d; on = on })
asked ps f s new c d on on_listed within c_listed d_listed c_whole d_whole =
    let first = both_parts c c_whole in
    let second = both_parts d d_whole in
    record {
      within = within;
      listed =
          and_from (uses_listed (length f.classes) (length f.roles) c)
          (uses_listed (length f.classes) (length f.roles) d) c_listed d_listed;
      items = and_from (has_enough_parts c) (has_enough_parts d) first.0 second.0;
      counts = and_from (has_counts_within 100 c) (has_counts_within 100 d) first.1 second.1;
      on_listed = on_listed;
    }

no_query : (q : Query) → [] ≡ q ∷ [] → ⊥
no_query q clash = cc clash

pub nothing_after : (is : List Item) (s new : Counts) → walked s (nothing_tests is) ≡ Ok new → s ≡ new
nothing_after [] s new h = nothing_held s new h
nothing_after (i ∷ is) s new h = absurd (never s new (shape (item_line i) false) [] refl h)

module _ (ps : List Prefix) (f : Counts) where
  pair_asked : (is : Items) → AreGoodItems is → (q : Query) → pair_in ps f is ≡ q ∷ [] → (s new : Counts)
      → walked s (joined (each_class ps is)) ≡ Ok new → Keeps new f → IsAsked ps f s new q
  pair_asked no_items good q pair s new h keeps = absurd (no_query q pair)
  pair_asked (item i no_items) good q pair s new h keeps = absurd (no_query q pair)
  pair_asked (item i (item j is)) good q pair s new h keeps =
      let c : Concept = concept_of ps f i in
      let d : Concept = concept_of ps f j in
      let rest : Parts = concepts_of ps f is in
      let all = parts_read ps f (item i (item j is)) (all_classes_read ps f (item i (item j is)) good) s new h keeps in
      let l =
      and_parts (uses_listed (length f.classes) (length f.roles) c)
      (parts_use_listed (length f.classes) (length f.roles) (part d rest)) all.listed in
      let m =
      and_parts (uses_listed (length f.classes) (length f.roles) d)
      (parts_use_listed (length f.classes) (length f.roles) rest) l.1 in
      let w = and_parts (is_whole c) (are_whole (part d rest)) all.whole in
      let v = and_parts (is_whole d) (are_whole rest) w.1 in
      let made : Query = record { sub = c; sup = d; on = Any } in
      let same : made ≡ q = cc pair in
      subst (λ (x : Query). IsAsked ps f s new x) same (asked ps f s new c d Any refl all.rises.within l.0 m.0 w.0 v.0)

  member_asked : (is : Items) → AreGoodItems is → (q : Query) → member_in ps f is ≡ q ∷ [] → (s new : Counts)
      → walked s (class_and_individual_tests ps is) ≡ Ok new → Keeps new f → IsAsked ps f s new q
  member_asked no_items good q pair s new h keeps = absurd (no_query q pair)
  member_asked (item i no_items) good q pair s new h keeps = absurd (no_query q pair)
  member_asked (item i (item j is)) good q pair s new h keeps =
      let c : Concept = concept_of ps f i in
      let a : ℕ = individual_of ps f j in
      let b = both s (class_tests ps i) (individuals_tests ps (item j is)) new h in
      let first =
      class_read ps f i good.0 s b.mid b.first
      (keeps_before s b.mid new f (individuals_tests ps (item j is)) b.second keeps) in
      let rest = individuals_read ps f (item j is) b.mid new good.1 b.second keeps in
      let known =
      and_parts (nat_lt a (length f.individuals))
      (list_all (λ e. nat_lt e (length f.individuals)) (individuals_of ps f is)) rest.listed in
      let made : Query = record { sub = top; sup = c; on = Individual a } in
      let same : made ≡ q = cc pair in
      subst (λ (x : Query). IsAsked ps f s new x) same
      (asked ps f s new top c (Individual a) known.0
      (λ prefixes within. rest.rises.within prefixes (first.rises.within prefixes within)) refl first.listed refl
      first.whole)

  -- ---- queries, by the words of their groups

  abbrev GroupAsks : List ℕ → Type 0
  GroupAsks w =
      (line : ℕ) (all : Items) → AreGoodItems all → (q : Query) → query_in ps f (group_item (Some w) all line) ≡ q ∷ []
      → (s new : Counts) → walked s (axiom_query_tests ps (group_item (Some w) all line)) ≡ Ok new → Keeps new f
      → IsAsked ps f s new q

  sub_class_asks : GroupAsks (codes "SubClassOf")
  unfolding axiom_keyword
  sub_class_asks line all good q pair s new h keeps =
      let is : Items = without_annotations all in
      let form = held s (shape line (nat_eq (item_count is) 2)) (joined (each_class ps is)) new h in
      pair_asked is (plain_good all good) q pair s new form.later keeps

  member_asks : GroupAsks (codes "ClassAssertion")
  unfolding axiom_keyword
  member_asks line all good q pair s new h keeps =
      let is : Items = without_annotations all in
      let form = held s (shape line (nat_eq (item_count is) 2)) (class_and_individual_tests ps is) new h in
      member_asked is (plain_good all good) q pair s new form.later keeps

  none_asks : (w : List ℕ)
      → ((line : ℕ) (all : Items) → axiom_query_tests ps (group_item (Some w) all line) ≡ shape line false ∷ [])
      → GroupAsks w
  none_asks w tests line all good q pair s new h keeps =
      absurd (never s new (shape line false) [] refl (ap (walked s) (sym (tests line all)) ∙ h))

  other_asks : (w : List ℕ) → axiom_keyword w ≡ axiom_else (excluded_axiom w) → GroupAsks w
  other_asks w same line all good q pair s new h keeps =
      absurd (by (excluded_axiom w)
      (sym (ap (λ k. walked s (query_group_tests ps k line (without_annotations all))) same) ∙ h))
    where
      by : (e : Option Construct)
          → walked s (query_group_tests ps (axiom_else e) line (without_annotations all)) ≡ Ok new → ⊥
      by (Some c) g = never s new (outside line c) [] refl g
      by None g = never s new (shape line false) [] refl g

  group_asks : (w : List ℕ) → GroupAsks w
  unfolding axiom_keyword
  group_asks =
      keyword_words GroupAsks sub_class_asks
      (none_asks (codes "EquivalentClasses") (λ line all. refl))
      (none_asks (codes "DisjointClasses") (λ line all. refl))
      (none_asks (codes "DisjointUnion") (λ line all. refl))
      (none_asks (codes "SubObjectPropertyOf") (λ line all. refl))
      (none_asks (codes "EquivalentObjectProperties") (λ line all. refl))
      (none_asks (codes "ObjectPropertyDomain") (λ line all. refl))
      (none_asks (codes "ObjectPropertyRange") (λ line all. refl))
      (none_asks (codes "FunctionalObjectProperty") (λ line all. refl))
      (none_asks (codes "TransitiveObjectProperty") (λ line all. refl))
      member_asks
      (none_asks (codes "ObjectPropertyAssertion") (λ line all. refl))
      (none_asks (codes "SameIndividual") (λ line all. refl))
      (none_asks (codes "DifferentIndividuals") (λ line all. refl))
      (none_asks (codes "Declaration") (λ line all. refl))
      (none_asks (codes "Annotation") (λ line all. refl))
      (none_asks (codes "AnnotationAssertion") (λ line all. refl))
      (none_asks (codes "SubAnnotationPropertyOf") (λ line all. refl))
      (none_asks (codes "AnnotationPropertyDomain") (λ line all. refl))
      (none_asks (codes "AnnotationPropertyRange") (λ line all. refl))
      other_asks

  query_asked : (i : Item) → IsGoodItem i → (q : Query) → query_in ps f i ≡ q ∷ [] → (s new : Counts)
      → walked s (axiom_query_tests ps i) ≡ Ok new → Keeps new f → IsAsked ps f s new q
  query_asked (group_item (Some w) is line) good q pair s new h keeps = group_asks w line is good q pair s new h keeps
  query_asked (group_item None is line) good q pair s new h keeps = absurd (never s new (shape line false) [] refl h)
  query_asked (name_item w line) good q pair s new h keeps = absurd (no_query q pair)
  query_asked (iri_item w line) good q pair s new h keeps = absurd (no_query q pair)
  query_asked (literal_item line) good q pair s new h keeps = absurd (no_query q pair)
  query_asked (sign_item k line) good q pair s new h keeps = absurd (no_query q pair)

  pub first_query_asked : (end : ℕ) (is : List Item) → AreGoodItems (items_of is) → (q : Query)
      → first_query ps f is ≡ q ∷ [] → (s new : Counts) → walked s (query_form_tests ps end is) ≡ Ok new → Keeps new f
      → IsAsked ps f s new q
  first_query_asked end [] good q pair s new h keeps = absurd (no_query q pair)
  first_query_asked end (i ∷ is) good q pair s new h keeps =
      let b = both s (axiom_query_tests ps i) (nothing_tests is) new h in
      subst (λ (t : Counts). IsAsked ps f s t q) (nothing_after is b.mid new b.second)
      (query_asked i good.0 q pair s b.mid b.first (keeps_before s b.mid new f (nothing_tests is) b.second keeps))

  -- ---- class expressions

  pub first_class_asked : (end : ℕ) (is : List Item) → AreGoodItems (items_of is) → (c : Concept)
      → first_class ps f is ≡ c ∷ [] → (s new : Counts) → walked s (class_form_tests ps end is) ≡ Ok new → Keeps new f
      → IsAsked ps f s new (record { sub = c; sup = bottom; on = Any })
  first_class_asked end [] good c class s new h keeps = let clash : [] ≡ c ∷ [] = class in absurd (cc clash)
  first_class_asked end (i ∷ is) good c class s new h keeps =
      let b = both s (class_tests ps i) (nothing_tests is) new h in
      let d : Concept = concept_of ps f i in
      let read =
      class_read ps f i good.0 s b.mid b.first (keeps_before s b.mid new f (nothing_tests is) b.second keeps) in
      let same : d ≡ c = cc class in
      subst (λ (t : Counts). IsAsked ps f s t (record { sub = c; sup = bottom; on = Any }))
      (nothing_after is b.mid new b.second)
      (subst (λ (x : Concept). IsAsked ps f s b.mid (record { sub = x; sup = bottom; on = Any })) same
      (asked ps f s b.mid d bottom Any refl read.rises.within read.listed refl read.whole refl))
