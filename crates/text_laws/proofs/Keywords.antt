-- What the groups of the canonical text are by their keywords: their tests, and what they stand for.
use Rattle.std.proofs.Common.{◌≡◌, ℕ, ◌+◌, ◌-◌, Bool, true, List, [], ◌∷◌, ◌++◌, Some, refl, codes}
use Rattle.std.specs.Prelude.{nat_le, nat_eq}
use Rattle.shq_terms.specs.Concept.{complement, intersection, union, some_of, all_of, at_least, at_most, exactly}
use Rattle.shq_terms.specs.Concept.{part_list}
use Rattle.shq_terms.specs.declared.axioms.Axiom.TheVariants as A
use Rattle.ofn_tree.specs.Items.{Item, group_item, Items, no_items, item}
use Rattle.ofn_expressions.specs.Counts.{Counts}
use Rattle.ofn_expressions.specs.Walk.{Test, shape, numbered, parts, nodes}
use Rattle.ofn_expressions.specs.Names.{Prefix}
use Rattle.ofn_expressions.specs.Keywords.{class_keyword}
use Rattle.ofn_expressions.specs.Classes.{item_count, joined, class_tests, each_class, role_tests, roles_tests}
use Rattle.ofn_expressions.specs.Classes.{number_tests, declared_class_tests, declared_role_tests, concept_of}
use Rattle.ofn_expressions.specs.Classes.{concepts_of, role_of, roles_of, cardinality_of}
use Rattle.ofn_expressions.specs.Individuals.{individual_tests, individuals_tests, individuals_of}
use Rattle.ofn_reader.specs.Keywords.{axiom_keyword, entity_keyword}
use Rattle.ofn_reader.specs.Groups.{without_annotations}
use Rattle.ofn_reader.specs.Axioms.{pair_count, role_and_class_tests, name_and_class_tests, class_and_individual_tests}
use Rattle.ofn_reader.specs.Axioms.{role_and_individual_tests, axiom_tests, axiom_in, numbered_at, sub_class_made}
use Rattle.ofn_reader.specs.Axioms.{union_made, sub_role_made, domain_made, range_made, functional_made}
use Rattle.ofn_reader.specs.Axioms.{transitive_made, member_made, pair_made}

abbrev group : List ℕ → Items → ℕ → Item
group w is line = group_item (Some w) is line

-- the tests of a group: the count of nodes, the number of its items, and then its items
abbrev pub group_tests : ℕ → Bool → List Test → List Test
group_tests line enough inner = nodes line 1 ∷ (shape line enough ∷ inner)

-- ---- class expressions

module _ (ps : List Prefix) (line : ℕ) (is : Items) where
  pub intersection_tests : class_tests ps (group (codes "ObjectIntersectionOf") is line)
      ≡ group_tests line (nat_le 2 (item_count is)) (joined (each_class ps is))
  unfolding class_keyword
  intersection_tests = refl

  pub union_tests : class_tests ps (group (codes "ObjectUnionOf") is line)
      ≡ group_tests line (nat_le 2 (item_count is)) (joined (each_class ps is))
  unfolding class_keyword
  union_tests = refl

  pub intersection_value : (s : Counts)
      → concept_of ps s (group (codes "ObjectIntersectionOf") is line) ≡ intersection (concepts_of ps s is)
  unfolding class_keyword
  intersection_value s = refl

  pub union_value : (s : Counts) → concept_of ps s (group (codes "ObjectUnionOf") is line) ≡ union (concepts_of ps s is)
  unfolding class_keyword
  union_value s = refl

module _ (ps : List Prefix) (line : ℕ) (i : Item) where
  pub complement_tests : class_tests ps (group (codes "ObjectComplementOf") (item i no_items) line)
      ≡ group_tests line true (class_tests ps i ++ [])
  unfolding class_keyword
  complement_tests = refl

  pub complement_value : (s : Counts)
      → concept_of ps s (group (codes "ObjectComplementOf") (item i no_items) line) ≡ complement (concept_of ps s i)
  unfolding class_keyword
  complement_value s = refl

module _ (ps : List Prefix) (line : ℕ) (r i : Item) where
  pub some_tests : class_tests ps (group (codes "ObjectSomeValuesFrom") (item r (item i no_items)) line)
      ≡ group_tests line true (role_tests ps r ++ (class_tests ps i ++ []))
  unfolding class_keyword
  some_tests = refl

  pub all_tests : class_tests ps (group (codes "ObjectAllValuesFrom") (item r (item i no_items)) line)
      ≡ group_tests line true (role_tests ps r ++ (class_tests ps i ++ []))
  unfolding class_keyword
  all_tests = refl

  pub some_value : (s : Counts)
      → concept_of ps s (group (codes "ObjectSomeValuesFrom") (item r (item i no_items)) line)
      ≡ some_of (role_of ps s r) (concept_of ps s i)
  unfolding class_keyword
  some_value s = refl

  pub all_value : (s : Counts)
      → concept_of ps s (group (codes "ObjectAllValuesFrom") (item r (item i no_items)) line)
      ≡ all_of (role_of ps s r) (concept_of ps s i)
  unfolding class_keyword
  all_value s = refl

module _ (ps : List Prefix) (line : ℕ) (k r i : Item) where
  pub least_tests : class_tests ps (group (codes "ObjectMinCardinality") (item k (item r (item i no_items))) line)
      ≡ group_tests line true (number_tests k ++ (role_tests ps r ++ (class_tests ps i ++ [])))
  unfolding class_keyword
  least_tests = refl

  pub most_tests : class_tests ps (group (codes "ObjectMaxCardinality") (item k (item r (item i no_items))) line)
      ≡ group_tests line true (number_tests k ++ (role_tests ps r ++ (class_tests ps i ++ [])))
  unfolding class_keyword
  most_tests = refl

  pub exact_tests : class_tests ps (group (codes "ObjectExactCardinality") (item k (item r (item i no_items))) line)
      ≡ group_tests line true (number_tests k ++ (role_tests ps r ++ (class_tests ps i ++ [])))
  unfolding class_keyword
  exact_tests = refl

  pub least_value : (s : Counts)
      → concept_of ps s (group (codes "ObjectMinCardinality") (item k (item r (item i no_items))) line)
      ≡ at_least (cardinality_of k) (role_of ps s r) (concept_of ps s i)
  unfolding class_keyword
  least_value s = refl

  pub most_value : (s : Counts)
      → concept_of ps s (group (codes "ObjectMaxCardinality") (item k (item r (item i no_items))) line)
      ≡ at_most (cardinality_of k) (role_of ps s r) (concept_of ps s i)
  unfolding class_keyword
  most_value s = refl

  pub exact_value : (s : Counts)
      → concept_of ps s (group (codes "ObjectExactCardinality") (item k (item r (item i no_items))) line)
      ≡ exactly (cardinality_of k) (role_of ps s r) (concept_of ps s i)
  unfolding class_keyword
  exact_value s = refl

-- ---- axioms

-- the tests of an axiom: the count of axioms, the number of its items, the count of parts, and then its items
abbrev pub axiom_group_tests : ℕ → Bool → ℕ → List Test → List Test
axiom_group_tests line enough n inner = numbered line ∷ (shape line enough ∷ (parts line n ∷ inner))

-- with the items behind annotations
module _ (ps : List Prefix) (line : ℕ) (all is : Items) (plain : without_annotations all ≡ is) where
  pub sub_class_tests : axiom_tests ps (group (codes "SubClassOf") all line)
      ≡ axiom_group_tests line (nat_eq (item_count is) 2) 1 (joined (each_class ps is))
  unfolding axiom_keyword
  sub_class_tests = λ k. axiom_group_tests line (nat_eq (item_count (plain k)) 2) 1 (joined (each_class ps (plain k)))

  pub equivalent_tests : axiom_tests ps (group (codes "EquivalentClasses") all line)
      ≡ axiom_group_tests line (nat_le 2 (item_count is)) (item_count is) (joined (each_class ps is))
  unfolding axiom_keyword
  equivalent_tests =
      λ k. axiom_group_tests line (nat_le 2 (item_count (plain k))) (item_count (plain k))
      (joined (each_class ps (plain k)))

  pub disjoint_tests : axiom_tests ps (group (codes "DisjointClasses") all line)
      ≡ axiom_group_tests line (nat_le 2 (item_count is)) (pair_count (item_count is)) (joined (each_class ps is))
  unfolding axiom_keyword
  disjoint_tests =
      λ k. axiom_group_tests line (nat_le 2 (item_count (plain k))) (pair_count (item_count (plain k)))
      (joined (each_class ps (plain k)))

  pub disjoint_union_tests : axiom_tests ps (group (codes "DisjointUnion") all line)
      ≡ axiom_group_tests line (nat_le 3 (item_count is)) (item_count is + pair_count (item_count is - 1))
      (name_and_class_tests ps is)
  unfolding axiom_keyword
  disjoint_union_tests =
      λ k. axiom_group_tests line (nat_le 3 (item_count (plain k)))
      (item_count (plain k) + pair_count (item_count (plain k) - 1)) (name_and_class_tests ps (plain k))

  pub sub_role_tests : axiom_tests ps (group (codes "SubObjectPropertyOf") all line)
      ≡ axiom_group_tests line (nat_eq (item_count is) 2) 0 (roles_tests ps is)
  unfolding axiom_keyword
  sub_role_tests = λ k. axiom_group_tests line (nat_eq (item_count (plain k)) 2) 0 (roles_tests ps (plain k))

  pub equivalent_roles_tests : axiom_tests ps (group (codes "EquivalentObjectProperties") all line)
      ≡ axiom_group_tests line (nat_le 2 (item_count is)) 0 (roles_tests ps is)
  unfolding axiom_keyword
  equivalent_roles_tests = λ k. axiom_group_tests line (nat_le 2 (item_count (plain k))) 0 (roles_tests ps (plain k))

  pub domain_tests : axiom_tests ps (group (codes "ObjectPropertyDomain") all line)
      ≡ axiom_group_tests line (nat_eq (item_count is) 2) 1 (role_and_class_tests ps is)
  unfolding axiom_keyword
  domain_tests = λ k. axiom_group_tests line (nat_eq (item_count (plain k)) 2) 1 (role_and_class_tests ps (plain k))

  pub range_tests : axiom_tests ps (group (codes "ObjectPropertyRange") all line)
      ≡ axiom_group_tests line (nat_eq (item_count is) 2) 1 (role_and_class_tests ps is)
  unfolding axiom_keyword
  range_tests = λ k. axiom_group_tests line (nat_eq (item_count (plain k)) 2) 1 (role_and_class_tests ps (plain k))

  pub functional_tests : axiom_tests ps (group (codes "FunctionalObjectProperty") all line)
      ≡ axiom_group_tests line (nat_eq (item_count is) 1) 1 (roles_tests ps is)
  unfolding axiom_keyword
  functional_tests = λ k. axiom_group_tests line (nat_eq (item_count (plain k)) 1) 1 (roles_tests ps (plain k))

  pub transitive_tests : axiom_tests ps (group (codes "TransitiveObjectProperty") all line)
      ≡ axiom_group_tests line (nat_eq (item_count is) 1) 0 (roles_tests ps is)
  unfolding axiom_keyword
  transitive_tests = λ k. axiom_group_tests line (nat_eq (item_count (plain k)) 1) 0 (roles_tests ps (plain k))

  pub member_tests : axiom_tests ps (group (codes "ClassAssertion") all line)
      ≡ axiom_group_tests line (nat_eq (item_count is) 2) 1 (class_and_individual_tests ps is)
  unfolding axiom_keyword
  member_tests =
      λ k. axiom_group_tests line (nat_eq (item_count (plain k)) 2) 1 (class_and_individual_tests ps (plain k))

  pub pair_tests : axiom_tests ps (group (codes "ObjectPropertyAssertion") all line)
      ≡ axiom_group_tests line (nat_eq (item_count is) 3) 1 (role_and_individual_tests ps is)
  unfolding axiom_keyword
  pair_tests = λ k. axiom_group_tests line (nat_eq (item_count (plain k)) 3) 1 (role_and_individual_tests ps (plain k))

  pub same_tests : axiom_tests ps (group (codes "SameIndividual") all line)
      ≡ axiom_group_tests line (nat_le 2 (item_count is)) (item_count is - 1) (individuals_tests ps is)
  unfolding axiom_keyword
  same_tests =
      λ k. axiom_group_tests line (nat_le 2 (item_count (plain k))) (item_count (plain k) - 1)
      (individuals_tests ps (plain k))

  pub different_tests : axiom_tests ps (group (codes "DifferentIndividuals") all line)
      ≡ axiom_group_tests line (nat_le 2 (item_count is)) (pair_count (item_count is)) (individuals_tests ps is)
  unfolding axiom_keyword
  different_tests =
      λ k. axiom_group_tests line (nat_le 2 (item_count (plain k))) (pair_count (item_count (plain k)))
      (individuals_tests ps (plain k))

  module _ (s : Counts) where
    pub sub_class_value : axiom_in ps s (group (codes "SubClassOf") all line)
        ≡ numbered_at line (sub_class_made ps s is)
    unfolding axiom_keyword
    sub_class_value = λ k. numbered_at line (sub_class_made ps s (plain k))

    pub equivalent_value : axiom_in ps s (group (codes "EquivalentClasses") all line)
        ≡ numbered_at line (A.EquivalentClasses (part_list (concepts_of ps s is)) ∷ [])
    unfolding axiom_keyword
    equivalent_value = λ k. numbered_at line (A.EquivalentClasses (part_list (concepts_of ps s (plain k))) ∷ [])

    pub disjoint_value : axiom_in ps s (group (codes "DisjointClasses") all line)
        ≡ numbered_at line (A.DisjointClasses (part_list (concepts_of ps s is)) ∷ [])
    unfolding axiom_keyword
    disjoint_value = λ k. numbered_at line (A.DisjointClasses (part_list (concepts_of ps s (plain k))) ∷ [])

    pub disjoint_union_value : axiom_in ps s (group (codes "DisjointUnion") all line)
        ≡ numbered_at line (union_made ps s is)
    unfolding axiom_keyword
    disjoint_union_value = λ k. numbered_at line (union_made ps s (plain k))

    pub sub_role_value : axiom_in ps s (group (codes "SubObjectPropertyOf") all line)
        ≡ numbered_at line (sub_role_made ps s is)
    unfolding axiom_keyword
    sub_role_value = λ k. numbered_at line (sub_role_made ps s (plain k))

    pub equivalent_roles_value : axiom_in ps s (group (codes "EquivalentObjectProperties") all line)
        ≡ numbered_at line (A.EquivalentRoles (roles_of ps s is) ∷ [])
    unfolding axiom_keyword
    equivalent_roles_value = λ k. numbered_at line (A.EquivalentRoles (roles_of ps s (plain k)) ∷ [])

    pub domain_value : axiom_in ps s (group (codes "ObjectPropertyDomain") all line)
        ≡ numbered_at line (domain_made ps s is)
    unfolding axiom_keyword
    domain_value = λ k. numbered_at line (domain_made ps s (plain k))

    pub range_value : axiom_in ps s (group (codes "ObjectPropertyRange") all line)
        ≡ numbered_at line (range_made ps s is)
    unfolding axiom_keyword
    range_value = λ k. numbered_at line (range_made ps s (plain k))

    pub functional_value : axiom_in ps s (group (codes "FunctionalObjectProperty") all line)
        ≡ numbered_at line (functional_made ps s is)
    unfolding axiom_keyword
    functional_value = λ k. numbered_at line (functional_made ps s (plain k))

    pub transitive_value : axiom_in ps s (group (codes "TransitiveObjectProperty") all line)
        ≡ numbered_at line (transitive_made ps s is)
    unfolding axiom_keyword
    transitive_value = λ k. numbered_at line (transitive_made ps s (plain k))

    pub member_value : axiom_in ps s (group (codes "ClassAssertion") all line) ≡ numbered_at line (member_made ps s is)
    unfolding axiom_keyword
    member_value = λ k. numbered_at line (member_made ps s (plain k))

    pub pair_value : axiom_in ps s (group (codes "ObjectPropertyAssertion") all line)
        ≡ numbered_at line (pair_made ps s is)
    unfolding axiom_keyword
    pair_value = λ k. numbered_at line (pair_made ps s (plain k))

    pub same_value : axiom_in ps s (group (codes "SameIndividual") all line)
        ≡ numbered_at line (A.SameAll (individuals_of ps s is) ∷ [])
    unfolding axiom_keyword
    same_value = λ k. numbered_at line (A.SameAll (individuals_of ps s (plain k)) ∷ [])

    pub different_value : axiom_in ps s (group (codes "DifferentIndividuals") all line)
        ≡ numbered_at line (A.Different (individuals_of ps s is) ∷ [])
    unfolding axiom_keyword
    different_value = λ k. numbered_at line (A.Different (individuals_of ps s (plain k)) ∷ [])

-- ---- declarations

abbrev pub declaration : List ℕ → Item → ℕ → Item
declaration kind i line = group (codes "Declaration") (item (group kind (item i no_items) line) no_items) line

module _ (ps : List Prefix) (line : ℕ) (i : Item) where
  pub class_declared : axiom_tests ps (declaration (codes "Class") i line)
      ≡ shape line true ∷ (shape line true ∷ declared_class_tests ps i)
  unfolding axiom_keyword entity_keyword
  class_declared = refl

  pub role_declared : axiom_tests ps (declaration (codes "ObjectProperty") i line)
      ≡ shape line true ∷ (shape line true ∷ declared_role_tests ps i)
  unfolding axiom_keyword entity_keyword
  role_declared = refl

  pub individual_declared : axiom_tests ps (declaration (codes "NamedIndividual") i line)
      ≡ shape line true ∷ (shape line true ∷ individual_tests ps i)
  unfolding axiom_keyword entity_keyword
  individual_declared = refl

  pub no_axiom : (kind : List ℕ) (s : Counts) → axiom_in ps s (declaration kind i line) ≡ []
  unfolding axiom_keyword
  no_axiom kind s = refl
