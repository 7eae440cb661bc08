-- The tests of axioms whose names are listed already, and what their phrases stand for.
use Rattle.std.proofs.Common.{◌≡◌, ℕ, ◌+◌, ◌-◌, ◌<◌, ◌≤◌, Bool, true, false, cond, ◌&&◌, List, [], ◌∷◌, ◌++◌, length}
use Rattle.std.proofs.Common.{Result, Ok, refl, ap, ◌∙◌, arith, codes, decimal, nat_lt}
use Rattle.std.specs.Prelude.{nat_le, slice_index_or}
use Rattle.std.specs.List.{list_all}
use Rattle.std.proofs.lemmas.Bool.{and_parts}
use Rattle.shq_terms.specs.Concept.{Concept, top, bottom, name, complement, intersection, union, some_of, all_of}
use Rattle.shq_terms.specs.Concept.{at_least, at_most, exactly, Parts, no_parts, part, parts_of, part_list}
use Rattle.shq_terms.specs.Listed.{Listed}
use Rattle.shq_terms.specs.Uses.{uses_listed, parts_use_listed, axiom_uses_listed}
use Rattle.shq_terms.specs.declared.axioms.Axiom.{Axiom}
use Rattle.shq_terms.specs.declared.axioms.Axiom.TheVariants.{SubClassOf, EquivalentClasses, DisjointClasses}
use Rattle.shq_terms.specs.declared.axioms.Axiom.TheVariants.{DisjointUnion, SubRole, EquivalentRoles, Domain, Range}
use Rattle.shq_terms.specs.declared.axioms.Axiom.TheVariants.{Functional, Transitive, Member, Pair, SameAll, Different}
use Rattle.shq_terms.specs.declared.axioms.Numbered.{Numbered}
use Rattle.ofn_tree.specs.Items.{Item, name_item, Items, no_items, item}
use Rattle.ofn_expressions.specs.Counts.{Counts}
use Rattle.ofn_expressions.specs.Walk.{Test, shape, numbered, parts, walked}
use Rattle.ofn_expressions.specs.Names.{Prefix, iri_of, full_iri}
use Rattle.ofn_expressions.specs.Classes.{item_count, is_spelled, role_tests, roles_tests, joined}
use Rattle.ofn_expressions.specs.Classes.{class_tests, each_class, class_name_tests, or_zero, class_named, role_of}
use Rattle.ofn_expressions.specs.Classes.{roles_of, cardinality_of, concept_of, concepts_of}
use Rattle.ofn_expressions.specs.Individuals.{individual_tests, individuals_tests, individual_of, individuals_of}
use Rattle.ofn_expressions.specs.declared.refusal.Refusal.{Refusal}
use Rattle.ofn_expressions.proofs.Walks.{goes_on}
use Rattle.ofn_reader.specs.Groups.{is_annotation, without_annotations}
use Rattle.ofn_reader.specs.Axioms.{pair_count, axiom_tests, axiom_in, numbered_at}
use Rattle.ofn_reader.specs.Held.{expressions, all_expressions, axiom_expressions}
use Rattle.text_laws.specs.Writable.{is_named}
use Rattle.text_laws.specs.WritingLaws.{KnowsOwl}
use Rattle.text_laws.proofs.Whole.{is_whole, are_whole, has_whole_items, has_item_count, is_whole_axiom, counted_parts}
use Rattle.text_laws.proofs.Checks.{le_true, true_lt, true_le, no_more}
use Rattle.text_laws.proofs.Phrases.{item_of, all_items}
use Rattle.text_laws.proofs.Terms.{role_phrase, individual_phrase, individual_phrases, two, concept_phrase}
use Rattle.text_laws.proofs.Terms.{part_phrases, role_phrases, axiom_phrase, decimal_number, named_alone}
use Rattle.text_laws.proofs.Keywords as keywords
use Rattle.text_laws.proofs.Keywords.{axiom_group_tests}
use Rattle.text_laws.proofs.Walks.{step, alone, AreKnown, counted, role_walk, individual_walk, individuals_walk}
use Rattle.text_laws.proofs.Walks.{count_parts, concept_walk, parts_walk, roles_walk}

-- ---- no annotation stands in front

module _ (o : Listed) (n : ℕ) where
  no_annotation : (c : Concept) → is_annotation (item_of n (concept_phrase o c)) ≡ false
  no_annotation top = refl
  no_annotation bottom = refl
  no_annotation (name a) = refl
  no_annotation (complement c) = refl
  no_annotation (intersection cs) = refl
  no_annotation (union cs) = refl
  no_annotation (some_of r c) = refl
  no_annotation (all_of r c) = refl
  no_annotation (at_least k r c) = refl
  no_annotation (at_most k r c) = refl
  no_annotation (exactly k r c) = refl

  pub plain_first : (c : Concept) (is : Items)
      → without_annotations (item (item_of n (concept_phrase o c)) is) ≡ item (item_of n (concept_phrase o c)) is
  plain_first c is =
      ap (λ v. cond v (without_annotations is) (item (item_of n (concept_phrase o c)) is)) (no_annotation c)

  plain_parts : (cs : Parts) → without_annotations (all_items n (part_phrases o cs)) ≡ all_items n (part_phrases o cs)
  plain_parts no_parts = refl
  plain_parts (part c cs) = plain_first c (all_items n (part_phrases o cs))

  plain_roles : (rs : List ℕ) → without_annotations (all_items n (role_phrases o rs)) ≡ all_items n (role_phrases o rs)
  plain_roles [] = refl
  plain_roles (r ∷ rs) = refl

  count_roles : (rs : List ℕ) → item_count (all_items n (role_phrases o rs)) ≡ length rs
  count_roles [] = refl
  count_roles (r ∷ rs) = omega (arith, count_roles rs)

  plain_individuals : (as_ : List ℕ)
      → without_annotations (all_items n (individual_phrases o as_)) ≡ all_items n (individual_phrases o as_)
  plain_individuals [] = refl
  plain_individuals (a ∷ as_) = refl

  count_individuals : (as_ : List ℕ) → item_count (all_items n (individual_phrases o as_)) ≡ length as_
  count_individuals [] = refl
  count_individuals (a ∷ as_) = omega (arith, count_individuals as_)

list_of_parts : (cs : List Concept) → part_list (parts_of cs) ≡ cs
list_of_parts [] = refl
list_of_parts (c ∷ cs) = ap (λ l. c ∷ l) (list_of_parts cs)

-- ---- tests

module _ (ps : List Prefix) (knows : KnowsOwl ps) (o : Listed) (names : AreKnown o) where
  head_walk : (x p n line : ℕ) (all : List Test) (enough : Bool) (k : ℕ) (inner : List Test)
      → all ≡ axiom_group_tests line enough k inner → enough ≡ true → x + 1 ≤ 20000 → p + k ≤ 500000
      → walked (counted o x p n) all ≡ walked (counted o (x + 1) (p + k) n) inner
  head_walk x p n line all enough k inner is h few few_parts =
      ap (walked (counted o x p n)) is
      ∙ step (counted o x p n) (numbered line) (shape line enough ∷ (parts line k ∷ inner)) (le_true (x + 1) 20000 few)
      ∙ step (counted o (x + 1) p n) (shape line enough) (parts line k ∷ inner) h
      ∙ step (counted o (x + 1) p n) (parts line k) inner (le_true (p + k) 500000 few_parts)

  abbrev listed : Concept → Bool
  listed c = uses_listed (length o.classes) (length o.roles) c

  abbrev all_listed : Parts → Bool
  all_listed cs = parts_use_listed (length o.classes) (length o.roles) cs

  abbrev known_role : ℕ → Bool
  known_role r = nat_lt r (length o.roles)

  -- the axiom's tests, from counts on
  abbrev Walks : ℕ → ℕ → ℕ → ℕ → Axiom → Type 0
  Walks x p n line a =
      walked (counted o x p n) (axiom_tests ps (item_of line (axiom_phrase o a)))
      ≡ Ok (counted o (x + 1) (p + counted_parts a) (n + axiom_expressions a))

  same_nodes : (x p n m : ℕ) → n ≡ m → ◌≡◌ {A = Result Counts Refusal} (Ok (counted o x p n)) (Ok (counted o x p m))
  same_nodes x p n m same = ap (λ k. Ok (counted o x p k)) same

  -- class expressions
  classes_walk : (x p n line : ℕ) (cs : List Concept) (all : List Test) (k : ℕ)
      → all ≡ axiom_group_tests line (nat_le 2 (item_count (all_items line (part_phrases o (parts_of cs))))) k
      (joined (each_class ps (all_items line (part_phrases o (parts_of cs)))))
      → all_listed (parts_of cs) ≡ true → nat_le 2 (length cs) ≡ true → are_whole (parts_of cs) ≡ true → x + 1 ≤ 20000
      → p + k ≤ 500000 → n + all_expressions (parts_of cs) ≤ 262144
      → walked (counted o x p n) all ≡ Ok (counted o (x + 1) (p + k) (n + all_expressions (parts_of cs)))
  classes_walk x p n line cs all k is known many whole few few_parts few_nodes =
      let items : Items = all_items line (part_phrases o (parts_of cs)) in
      let count : item_count items ≡ length cs =
      count_parts ps knows o names x p line (parts_of cs) ∙ ap length (list_of_parts cs) in
      head_walk x p n line all (nat_le 2 (item_count items)) k (joined (each_class ps items)) is
      (ap (nat_le 2) count ∙ many) few few_parts
      ∙ parts_walk ps knows o names (x + 1) (p + k) n line (parts_of cs) known whole few_nodes

  -- a role and a class expression
  valued_walk : (x p n line r : ℕ) (c : Concept) (all : List Test)
      → all ≡ axiom_group_tests line true 1
      (role_tests ps (item_of line (role_phrase o r)) ++ (class_tests ps (item_of line (concept_phrase o c)) ++ []))
      → (known_role r && listed c) ≡ true → is_whole c ≡ true → x + 1 ≤ 20000 → p + 1 ≤ 500000
      → n + expressions c ≤ 262144
      → walked (counted o x p n) all ≡ Ok (counted o (x + 1) (p + 1) (n + expressions c))
  valued_walk x p n line r c all is known whole few few_parts few_nodes =
      let ts : List Test = class_tests ps (item_of line (concept_phrase o c)) in
      let rs : List Test = role_tests ps (item_of line (role_phrase o r)) in
      let s : Counts = counted o (x + 1) (p + 1) n in
      head_walk x p n line all true 1 (rs ++ (ts ++ [])) is refl few few_parts
      ∙ goes_on s s rs (ts ++ [])
      (role_walk ps knows o names (x + 1) (p + 1) n line r
      (true_lt r (length o.roles) (and_parts (known_role r) (listed c) known).0))
      ∙ alone s (counted o (x + 1) (p + 1) (n + expressions c)) ts
      (concept_walk ps knows o names (x + 1) (p + 1) n line c (and_parts (known_role r) (listed c) known).1 whole
      few_nodes)

  -- roles
  all_roles_walk : (x p n line : ℕ) (rs : List ℕ) (all : List Test) (enough : Bool) (k : ℕ)
      → all ≡ axiom_group_tests line enough k (roles_tests ps (all_items line (role_phrases o rs)))
      → list_all (λ r. nat_lt r (length o.roles)) rs ≡ true → enough ≡ true → x + 1 ≤ 20000 → p + k ≤ 500000
      → walked (counted o x p n) all ≡ Ok (counted o (x + 1) (p + k) (n + 0))
  all_roles_walk x p n line rs all enough k is known h few few_parts =
      head_walk x p n line all enough k (roles_tests ps (all_items line (role_phrases o rs))) is h few few_parts
      ∙ roles_walk ps knows o names (x + 1) (p + k) n line rs known
      ∙ same_nodes (x + 1) (p + k) n (n + 0) (no_more n)

  -- individuals
  all_individuals_walk : (x p n line : ℕ) (as_ : List ℕ) (all : List Test) (enough : Bool) (k : ℕ)
      → all ≡ axiom_group_tests line enough k (individuals_tests ps (all_items line (individual_phrases o as_)))
      → list_all (λ a. nat_lt a (length o.individuals)) as_ ≡ true → enough ≡ true → x + 1 ≤ 20000 → p + k ≤ 500000
      → walked (counted o x p n) all ≡ Ok (counted o (x + 1) (p + k) (n + 0))
  all_individuals_walk x p n line as_ all enough k is known h few few_parts =
      head_walk x p n line all enough k (individuals_tests ps (all_items line (individual_phrases o as_))) is h few
      few_parts
      ∙ individuals_walk ps knows o names (x + 1) (p + k) n line as_ known
      ∙ same_nodes (x + 1) (p + k) n (n + 0) (no_more n)

  member_walk : (x p n line : ℕ) (c : Concept) (a : ℕ) → (listed c && nat_lt a (length o.individuals)) ≡ true
      → is_whole c ≡ true → x + 1 ≤ 20000 → p + 1 ≤ 500000 → n + expressions c ≤ 262144 → Walks x p n line (Member c a)
  member_walk x p n line c a known whole few few_parts few_nodes =
      let both = and_parts (listed c) (nat_lt a (length o.individuals)) known in
      let first : Item = item_of line (concept_phrase o c) in
      let second : Item = item_of line (individual_phrase o a) in
      let is : Items = item first (item second no_items) in
      let ts : List Test = class_tests ps first in
      let us : List Test = individual_tests ps second in
      let s : Counts = counted o (x + 1) (p + 1) n in
      let mid : Counts = counted o (x + 1) (p + 1) (n + expressions c) in
      head_walk x p n line (axiom_tests ps (item_of line (axiom_phrase o (Member c a)))) true 1 (ts ++ (us ++ []))
      (keywords.member_tests ps line is is (plain_first o line c (item second no_items))) refl few few_parts
      ∙ goes_on s mid ts (us ++ []) (concept_walk ps knows o names (x + 1) (p + 1) n line c both.0 whole few_nodes)
      ∙ alone mid mid us
      (individual_walk ps knows o names (x + 1) (p + 1) (n + expressions c) line a
      (true_lt a (length o.individuals) both.1))

  pair_walk : (x p n line r a b : ℕ)
      → (known_role r && (nat_lt a (length o.individuals) && nat_lt b (length o.individuals))) ≡ true → x + 1 ≤ 20000
      → p + 1 ≤ 500000 → Walks x p n line (Pair r a b)
  pair_walk x p n line r a b known few few_parts =
      let outer = and_parts (known_role r) (nat_lt a (length o.individuals) && nat_lt b (length o.individuals)) known in
      let inner = and_parts (nat_lt a (length o.individuals)) (nat_lt b (length o.individuals)) outer.1 in
      let first : Item = item_of line (role_phrase o r) in
      let others : Items = all_items line (individual_phrases o (a ∷ b ∷ [])) in
      let rs : List Test = role_tests ps first in
      let us : List Test = individuals_tests ps others in
      let s : Counts = counted o (x + 1) (p + 1) n in
      let both_known : list_all (λ i. nat_lt i (length o.individuals)) (a ∷ b ∷ []) ≡ true =
      λ i. inner.0 i && (inner.1 i && true) in
      head_walk x p n line (axiom_tests ps (item_of line (axiom_phrase o (Pair r a b)))) true 1 (rs ++ us)
      (keywords.pair_tests ps line (item first others) (item first others) refl) refl few few_parts
      ∙ goes_on s s rs us (role_walk ps knows o names (x + 1) (p + 1) n line r (true_lt r (length o.roles) outer.0))
      ∙ individuals_walk ps knows o names (x + 1) (p + 1) n line (a ∷ b ∷ []) both_known
      ∙ same_nodes (x + 1) (p + 1) n (n + 0) (no_more n)

  one_role : (r : ℕ) → known_role r ≡ true → list_all (λ s. nat_lt s (length o.roles)) (r ∷ []) ≡ true
  one_role r known = ap (λ b. b && true) known

  two_roles : (r s : ℕ) → (known_role r && known_role s) ≡ true
      → list_all (λ t. nat_lt t (length o.roles)) (r ∷ s ∷ []) ≡ true
  two_roles r s known =
      let first : known_role r ≡ true = (and_parts (known_role r) (known_role s) known).0 in
      let second : known_role s ≡ true = (and_parts (known_role r) (known_role s) known).1 in
      λ i. first i && (second i && true)

  -- a name of a class, where it stands alone
  named_tests : (line : ℕ) (c : Concept) → is_named c ≡ true
      → class_name_tests ps (item_of line (concept_phrase o c)) ≡ class_tests ps (item_of line (concept_phrase o c))
  named_tests line top h = refl
  named_tests line bottom h = refl
  named_tests line (name a) h = refl
  named_tests line (complement c) h = cc
  named_tests line (intersection cs) h = cc
  named_tests line (union cs) h = cc
  named_tests line (some_of r c) h = cc
  named_tests line (all_of r c) h = cc
  named_tests line (at_least k r c) h = cc
  named_tests line (at_most k r c) h = cc
  named_tests line (exactly k r c) h = cc

  union_walk : (x p n line : ℕ) (c : Concept) (cs : List Concept) → (listed c && all_listed (parts_of cs)) ≡ true
      → nat_le 2 (length cs) ≡ true → (is_named c && are_whole (parts_of cs)) ≡ true
      → x + 1 ≤ 20000 → p + (length cs + 1 + pair_count (length cs)) ≤ 500000
      → n + (1 + all_expressions (parts_of cs)) ≤ 262144 → Walks x p n line (DisjointUnion c cs)
  union_walk x p n line c cs known many whole few few_parts few_nodes =
      let first : Item = item_of line (concept_phrase o c) in
      let others : Items = all_items line (part_phrases o (parts_of cs)) in
      let named : is_named c ≡ true = (and_parts (is_named c) (are_whole (parts_of cs)) whole).0 in
      let single = named_alone c named in
      let count : item_count others ≡ length cs =
      count_parts ps knows o names x p line (parts_of cs) ∙ ap length (list_of_parts cs) in
      let k : ℕ = length cs + 1 + pair_count (length cs) in
      let less : length cs + 1 - 1 ≡ length cs = omega arith in
      let parts_are : item_count others + 1 + pair_count (item_count others + 1 - 1) ≡ k =
      (λ i. count i + 1 + pair_count (count i + 1 - 1)) ∙ ap (λ m. length cs + 1 + pair_count m) less in
      let at_least_two : 2 ≤ length cs = true_le 2 (length cs) many in
      let inner : List Test = class_name_tests ps first ++ joined (each_class ps others) in
      let all : axiom_tests ps (item_of line (axiom_phrase o (DisjointUnion c cs)))
      ≡ axiom_group_tests line (nat_le 3 (item_count others + 1)) k inner =
      keywords.disjoint_union_tests ps line (item first others) (item first others) (plain_first o line c others)
      ∙ ap (λ m. axiom_group_tests line (nat_le 3 (item_count others + 1)) m inner) parts_are in
      let few_first : n + expressions c ≤ 262144 = omega (arith, single.1, few_nodes) in
      let few_others : n + expressions c + all_expressions (parts_of cs) ≤ 262144 =
      omega (arith, single.1, few_nodes) in
      let nodes_are : n + expressions c + all_expressions (parts_of cs) ≡ n + (1 + all_expressions (parts_of cs)) =
      omega (arith, single.1) in
      let s : Counts = counted o (x + 1) (p + k) n in
      let mid : Counts = counted o (x + 1) (p + k) (n + expressions c) in
      head_walk x p n line (axiom_tests ps (item_of line (axiom_phrase o (DisjointUnion c cs))))
      (nat_le 3 (item_count others + 1)) k inner all
      (le_true 3 (item_count others + 1) (omega (arith, count, at_least_two))) few few_parts
      ∙ goes_on s mid (class_name_tests ps first) (joined (each_class ps others))
      (ap (walked s) (named_tests line c named)
      ∙ concept_walk ps knows o names (x + 1) (p + k) n line c (and_parts (listed c) (all_listed (parts_of cs)) known).0
      single.0 few_first)
      ∙ parts_walk ps knows o names (x + 1) (p + k) (n + expressions c) line (parts_of cs)
      (and_parts (listed c) (all_listed (parts_of cs)) known).1
      (and_parts (is_named c) (are_whole (parts_of cs)) whole).1 few_others
      ∙ same_nodes (x + 1) (p + k) (n + expressions c + all_expressions (parts_of cs))
      (n + (1 + all_expressions (parts_of cs))) nodes_are

  sub_class_walk : (x p n line : ℕ) (c d : Concept) → (listed c && listed d) ≡ true → (is_whole c && is_whole d) ≡ true
      → x + 1 ≤ 20000 → p + 1 ≤ 500000 → n + (expressions c + expressions d) ≤ 262144
      → Walks x p n line (SubClassOf c d)
  sub_class_walk x p n line c d known whole few few_parts few_nodes =
      let first : Item = item_of line (concept_phrase o c) in
      let second : Item = item_of line (concept_phrase o d) in
      let is : Items = item first (item second no_items) in
      let ts : List Test = class_tests ps first in
      let us : List Test = class_tests ps second in
      let s : Counts = counted o (x + 1) (p + 1) n in
      let mid : Counts = counted o (x + 1) (p + 1) (n + expressions c) in
      let few_first : n + expressions c ≤ 262144 = omega (arith, few_nodes) in
      let few_second : n + expressions c + expressions d ≤ 262144 = omega (arith, few_nodes) in
      let nodes_are : n + expressions c + expressions d ≡ n + (expressions c + expressions d) = omega arith in
      head_walk x p n line (axiom_tests ps (item_of line (axiom_phrase o (SubClassOf c d)))) true 1 (ts ++ (us ++ []))
      (keywords.sub_class_tests ps line is is (plain_first o line c (item second no_items))) refl few few_parts
      ∙ goes_on s mid ts (us ++ [])
      (concept_walk ps knows o names (x + 1) (p + 1) n line c (and_parts (listed c) (listed d) known).0
      (and_parts (is_whole c) (is_whole d) whole).0 few_first)
      ∙ alone mid (counted o (x + 1) (p + 1) (n + expressions c + expressions d)) us
      (concept_walk ps knows o names (x + 1) (p + 1) (n + expressions c) line d
      (and_parts (listed c) (listed d) known).1 (and_parts (is_whole c) (is_whole d) whole).1 few_second)
      ∙ same_nodes (x + 1) (p + 1) (n + expressions c + expressions d) (n + (expressions c + expressions d)) nodes_are

  axiom_walk_by : (x p n line : ℕ) (a : Axiom)
      → axiom_uses_listed (length o.classes) (length o.roles) (length o.individuals) a ≡ true → has_item_count a ≡ true
      → has_whole_items a ≡ true → x + 1 ≤ 20000 → p + counted_parts a ≤ 500000 → n + axiom_expressions a ≤ 262144
      → Walks x p n line a
  axiom_walk_by x p n line (SubClassOf c d) known enough whole few few_parts few_nodes =
      sub_class_walk x p n line c d known whole few few_parts few_nodes
  axiom_walk_by x p n line (EquivalentClasses cs) known enough whole few few_parts few_nodes =
      let items : Items = all_items line (part_phrases o (parts_of cs)) in
      let count : item_count items ≡ length cs =
      count_parts ps knows o names x p line (parts_of cs) ∙ ap length (list_of_parts cs) in
      classes_walk x p n line cs (axiom_tests ps (item_of line (axiom_phrase o (EquivalentClasses cs)))) (length cs)
      (keywords.equivalent_tests ps line items items (plain_parts o line (parts_of cs))
      ∙ ap (λ k. axiom_group_tests line (nat_le 2 (item_count items)) k (joined (each_class ps items))) count)
      known enough whole few few_parts few_nodes
  axiom_walk_by x p n line (DisjointClasses cs) known enough whole few few_parts few_nodes =
      let items : Items = all_items line (part_phrases o (parts_of cs)) in
      let count : item_count items ≡ length cs =
      count_parts ps knows o names x p line (parts_of cs) ∙ ap length (list_of_parts cs) in
      classes_walk x p n line cs (axiom_tests ps (item_of line (axiom_phrase o (DisjointClasses cs))))
      (pair_count (length cs))
      (keywords.disjoint_tests ps line items items (plain_parts o line (parts_of cs))
      ∙ ap (λ k. axiom_group_tests line (nat_le 2 (item_count items)) (pair_count k) (joined (each_class ps items)))
      count)
      known enough whole few few_parts few_nodes
  axiom_walk_by x p n line (DisjointUnion c cs) known enough whole few few_parts few_nodes =
      union_walk x p n line c cs known enough whole few few_parts few_nodes
  axiom_walk_by x p n line (SubRole r s) known enough whole few few_parts few_nodes =
      let items : Items = all_items line (role_phrases o (r ∷ s ∷ [])) in
      all_roles_walk x p n line (r ∷ s ∷ []) (axiom_tests ps (item_of line (axiom_phrase o (SubRole r s)))) true 0
      (keywords.sub_role_tests ps line items items refl) (two_roles r s known) refl few few_parts
  axiom_walk_by x p n line (EquivalentRoles rs) known enough whole few few_parts few_nodes =
      let items : Items = all_items line (role_phrases o rs) in
      all_roles_walk x p n line rs (axiom_tests ps (item_of line (axiom_phrase o (EquivalentRoles rs))))
      (nat_le 2 (item_count items)) 0 (keywords.equivalent_roles_tests ps line items items (plain_roles o line rs))
      known
      (ap (nat_le 2) (count_roles o line rs) ∙ enough) few few_parts
  axiom_walk_by x p n line (Domain r c) known enough whole few few_parts few_nodes =
      let items : Items = all_items line (two (role_phrase o r) (concept_phrase o c)) in
      valued_walk x p n line r c (axiom_tests ps (item_of line (axiom_phrase o (Domain r c))))
      (keywords.domain_tests ps line items items refl) known whole few few_parts few_nodes
  axiom_walk_by x p n line (Range r c) known enough whole few few_parts few_nodes =
      let items : Items = all_items line (two (role_phrase o r) (concept_phrase o c)) in
      valued_walk x p n line r c (axiom_tests ps (item_of line (axiom_phrase o (Range r c))))
      (keywords.range_tests ps line items items refl) known whole few few_parts few_nodes
  axiom_walk_by x p n line (Functional r) known enough whole few few_parts few_nodes =
      let items : Items = all_items line (role_phrases o (r ∷ [])) in
      all_roles_walk x p n line (r ∷ []) (axiom_tests ps (item_of line (axiom_phrase o (Functional r)))) true 1
      (keywords.functional_tests ps line items items refl) (one_role r known) refl few few_parts
  axiom_walk_by x p n line (Transitive r) known enough whole few few_parts few_nodes =
      let items : Items = all_items line (role_phrases o (r ∷ [])) in
      all_roles_walk x p n line (r ∷ []) (axiom_tests ps (item_of line (axiom_phrase o (Transitive r)))) true 0
      (keywords.transitive_tests ps line items items refl) (one_role r known) refl few few_parts
  axiom_walk_by x p n line (Member c a) known enough whole few few_parts few_nodes =
      member_walk x p n line c a known whole few few_parts few_nodes
  axiom_walk_by x p n line (Pair r a b) known enough whole few few_parts few_nodes =
      pair_walk x p n line r a b known few few_parts
  axiom_walk_by x p n line (SameAll as_) known enough whole few few_parts few_nodes =
      let items : Items = all_items line (individual_phrases o as_) in
      let count : item_count items ≡ length as_ = count_individuals o line as_ in
      all_individuals_walk x p n line as_ (axiom_tests ps (item_of line (axiom_phrase o (SameAll as_))))
      (nat_le 2 (item_count items)) (length as_ - 1)
      (keywords.same_tests ps line items items (plain_individuals o line as_)
      ∙ ap (λ k. axiom_group_tests line (nat_le 2 (item_count items)) (k - 1) (individuals_tests ps items)) count)
      known (ap (nat_le 2) count ∙ enough) few few_parts
  axiom_walk_by x p n line (Different as_) known enough whole few few_parts few_nodes =
      let items : Items = all_items line (individual_phrases o as_) in
      let count : item_count items ≡ length as_ = count_individuals o line as_ in
      all_individuals_walk x p n line as_ (axiom_tests ps (item_of line (axiom_phrase o (Different as_))))
      (nat_le 2 (item_count items)) (pair_count (length as_))
      (keywords.different_tests ps line items items (plain_individuals o line as_)
      ∙ ap (λ k. axiom_group_tests line (nat_le 2 (item_count items)) (pair_count k) (individuals_tests ps items))
      count)
      known (ap (nat_le 2) count ∙ enough) few few_parts

  pub axiom_walk : (x p n line : ℕ) (a : Axiom)
      → axiom_uses_listed (length o.classes) (length o.roles) (length o.individuals) a ≡ true → is_whole_axiom a ≡ true
      → x + 1 ≤ 20000 → p + counted_parts a ≤ 500000 → n + axiom_expressions a ≤ 262144 → Walks x p n line a
  axiom_walk x p n line a known whole few few_parts few_nodes =
      axiom_walk_by x p n line a known (and_parts (has_item_count a) (has_whole_items a) whole).0
      (and_parts (has_item_count a) (has_whole_items a) whole).1 few few_parts few_nodes

  -- ---- values

  module _ (x p n : ℕ) where
    abbrev s : Counts
    s = counted o x p n

    role_value : (line r : ℕ) → known_role r ≡ true → role_of ps s (item_of line (role_phrase o r)) ≡ r
    role_value line r known = ap or_zero (names.role_place r (true_lt r (length o.roles) known))

    pub individual_value : (line a : ℕ) → nat_lt a (length o.individuals) ≡ true
        → individual_of ps s (item_of line (individual_phrase o a)) ≡ a
    individual_value line a known = ap or_zero (names.individual_place a (true_lt a (length o.individuals) known))

    individuals_value : (line : ℕ) (as_ : List ℕ) → list_all (λ a. nat_lt a (length o.individuals)) as_ ≡ true
        → individuals_of ps s (all_items line (individual_phrases o as_)) ≡ as_
    individuals_value line [] known = refl
    individuals_value line (a ∷ as_) known =
        let here : Bool = nat_lt a (length o.individuals) in
        let others : Bool = list_all (λ b. nat_lt b (length o.individuals)) as_ in
        let first : individual_of ps s (item_of line (individual_phrase o a)) ≡ a =
        individual_value line a (and_parts here others known).0 in
        let rest : individuals_of ps s (all_items line (individual_phrases o as_)) ≡ as_ =
        individuals_value line as_ (and_parts here others known).1 in
        λ i. first i ∷ rest i

    class_value : (line c : ℕ) → nat_lt c (length o.classes) ≡ true
        → class_named s (slice_index_or o.classes c []) ≡ name c
    class_value line c known =
        let less : c < length o.classes = true_lt c (length o.classes) known in
        λ i. cond (names.no_thing c less i) top
        (cond (names.no_nothing c less i) bottom (name (or_zero (names.class_place c less i))))

    thing_value : (line : ℕ) → concept_of ps s (name_item (codes "owl:Thing") line) ≡ top
    unfolding is_spelled
    thing_value line = ap (λ r. class_named s (full_iri r (codes "Thing"))) knows

    nothing_value : (line : ℕ) → concept_of ps s (name_item (codes "owl:Nothing") line) ≡ bottom
    unfolding is_spelled
    nothing_value line = ap (λ r. class_named s (full_iri r (codes "Nothing"))) knows

    number_value : (line k : ℕ) → nat_le k 100 ≡ true → cardinality_of (name_item (decimal k) line) ≡ k
    number_value line k few = ap or_zero (decimal_number k (true_le k 100 few))

    mutual
      pub concept_value : (line : ℕ) (c : Concept) → listed c ≡ true → is_whole c ≡ true
          → concept_of ps s (item_of line (concept_phrase o c)) ≡ c
      concept_value line top known whole = thing_value line
      concept_value line bottom known whole = nothing_value line
      concept_value line (name a) known whole = class_value line a known
      concept_value line (complement c) known whole =
          keywords.complement_value ps line (item_of line (concept_phrase o c)) s
          ∙ ap complement (concept_value line c known whole)
      concept_value line (intersection cs) known whole =
          keywords.intersection_value ps line (all_items line (part_phrases o cs)) s
          ∙ ap intersection
          (parts_value line cs known (and_parts (nat_le 2 (length (part_list cs))) (are_whole cs) whole).1)
      concept_value line (union cs) known whole =
          keywords.union_value ps line (all_items line (part_phrases o cs)) s
          ∙ ap union (parts_value line cs known (and_parts (nat_le 2 (length (part_list cs))) (are_whole cs) whole).1)
      concept_value line (some_of r c) known whole =
          let role : role_of ps s (item_of line (role_phrase o r)) ≡ r =
          role_value line r (and_parts (known_role r) (listed c) known).0 in
          let inner : concept_of ps s (item_of line (concept_phrase o c)) ≡ c =
          concept_value line c (and_parts (known_role r) (listed c) known).1 whole in
          keywords.some_value ps line (item_of line (role_phrase o r)) (item_of line (concept_phrase o c)) s
          ∙ (λ i. some_of (role i) (inner i))
      concept_value line (all_of r c) known whole =
          let role : role_of ps s (item_of line (role_phrase o r)) ≡ r =
          role_value line r (and_parts (known_role r) (listed c) known).0 in
          let inner : concept_of ps s (item_of line (concept_phrase o c)) ≡ c =
          concept_value line c (and_parts (known_role r) (listed c) known).1 whole in
          keywords.all_value ps line (item_of line (role_phrase o r)) (item_of line (concept_phrase o c)) s
          ∙ (λ i. all_of (role i) (inner i))
      concept_value line (at_least k r c) known whole =
          let number : cardinality_of (name_item (decimal k) line) ≡ k =
          number_value line k (and_parts (nat_le k 100) (is_whole c) whole).0 in
          let role : role_of ps s (item_of line (role_phrase o r)) ≡ r =
          role_value line r (and_parts (known_role r) (listed c) known).0 in
          let inner : concept_of ps s (item_of line (concept_phrase o c)) ≡ c =
          concept_value line c (and_parts (known_role r) (listed c) known).1
          (and_parts (nat_le k 100) (is_whole c) whole).1 in
          keywords.least_value ps line (name_item (decimal k) line) (item_of line (role_phrase o r))
          (item_of line (concept_phrase o c)) s
          ∙ (λ i. at_least (number i) (role i) (inner i))
      concept_value line (at_most k r c) known whole =
          let number : cardinality_of (name_item (decimal k) line) ≡ k =
          number_value line k (and_parts (nat_le k 100) (is_whole c) whole).0 in
          let role : role_of ps s (item_of line (role_phrase o r)) ≡ r =
          role_value line r (and_parts (known_role r) (listed c) known).0 in
          let inner : concept_of ps s (item_of line (concept_phrase o c)) ≡ c =
          concept_value line c (and_parts (known_role r) (listed c) known).1
          (and_parts (nat_le k 100) (is_whole c) whole).1 in
          keywords.most_value ps line (name_item (decimal k) line) (item_of line (role_phrase o r))
          (item_of line (concept_phrase o c)) s
          ∙ (λ i. at_most (number i) (role i) (inner i))
      concept_value line (exactly k r c) known whole =
          let number : cardinality_of (name_item (decimal k) line) ≡ k =
          number_value line k (and_parts (nat_le k 100) (is_whole c) whole).0 in
          let role : role_of ps s (item_of line (role_phrase o r)) ≡ r =
          role_value line r (and_parts (known_role r) (listed c) known).0 in
          let inner : concept_of ps s (item_of line (concept_phrase o c)) ≡ c =
          concept_value line c (and_parts (known_role r) (listed c) known).1
          (and_parts (nat_le k 100) (is_whole c) whole).1 in
          keywords.exact_value ps line (name_item (decimal k) line) (item_of line (role_phrase o r))
          (item_of line (concept_phrase o c)) s
          ∙ (λ i. exactly (number i) (role i) (inner i))

      parts_value : (line : ℕ) (cs : Parts) → all_listed cs ≡ true → are_whole cs ≡ true
          → concepts_of ps s (all_items line (part_phrases o cs)) ≡ cs
      parts_value line no_parts known whole = refl
      parts_value line (part c cs) known whole =
          let first : concept_of ps s (item_of line (concept_phrase o c)) ≡ c =
          concept_value line c (and_parts (listed c) (all_listed cs) known).0
          (and_parts (is_whole c) (are_whole cs) whole).0 in
          let others : concepts_of ps s (all_items line (part_phrases o cs)) ≡ cs =
          parts_value line cs (and_parts (listed c) (all_listed cs) known).1
          (and_parts (is_whole c) (are_whole cs) whole).1 in
          λ i. part (first i) (others i)

    roles_value : (line : ℕ) (rs : List ℕ) → list_all (λ r. nat_lt r (length o.roles)) rs ≡ true
        → roles_of ps s (all_items line (role_phrases o rs)) ≡ rs
    roles_value line [] known = refl
    roles_value line (r ∷ rs) known =
        let here : Bool = known_role r in
        let others : Bool = list_all (λ t. nat_lt t (length o.roles)) rs in
        let first : role_of ps s (item_of line (role_phrase o r)) ≡ r =
        role_value line r (and_parts here others known).0 in
        let rest : roles_of ps s (all_items line (role_phrases o rs)) ≡ rs =
        roles_value line rs (and_parts here others known).1 in
        λ i. first i ∷ rest i

    -- a name alone stands for the same
    named_value : (line : ℕ) (c : Concept) → is_named c ≡ true
        → class_named s (iri_of ps (item_of line (concept_phrase o c)))
        ≡ concept_of ps s (item_of line (concept_phrase o c))
    named_value line top h = refl
    named_value line bottom h = refl
    named_value line (name a) h = refl
    named_value line (complement c) h = cc
    named_value line (intersection cs) h = cc
    named_value line (union cs) h = cc
    named_value line (some_of r c) h = cc
    named_value line (all_of r c) h = cc
    named_value line (at_least k r c) h = cc
    named_value line (at_most k r c) h = cc
    named_value line (exactly k r c) h = cc

    abbrev one_axiom : ℕ → Axiom → List Numbered
    one_axiom line a = numbered_at line (a ∷ [])

    listed_parts : (line : ℕ) (cs : List Concept) → all_listed (parts_of cs) ≡ true → are_whole (parts_of cs) ≡ true
        → part_list (concepts_of ps s (all_items line (part_phrases o (parts_of cs)))) ≡ cs
    listed_parts line cs known whole = ap part_list (parts_value line (parts_of cs) known whole) ∙ list_of_parts cs

    axiom_value_by : (line : ℕ) (a : Axiom)
        → axiom_uses_listed (length o.classes) (length o.roles) (length o.individuals) a ≡ true
        → has_whole_items a ≡ true → axiom_in ps s (item_of line (axiom_phrase o a)) ≡ one_axiom line a
    axiom_value_by line (SubClassOf c d) known whole =
        let is : Items = item (item_of line (concept_phrase o c)) (item (item_of line (concept_phrase o d)) no_items) in
        let first : concept_of ps s (item_of line (concept_phrase o c)) ≡ c =
        concept_value line c (and_parts (listed c) (listed d) known).0 (and_parts (is_whole c) (is_whole d) whole).0 in
        let second : concept_of ps s (item_of line (concept_phrase o d)) ≡ d =
        concept_value line d (and_parts (listed c) (listed d) known).1 (and_parts (is_whole c) (is_whole d) whole).1 in
        keywords.sub_class_value ps line is is
        (plain_first o line c (item (item_of line (concept_phrase o d)) no_items)) s
        ∙ (λ i. one_axiom line (SubClassOf (first i) (second i)))
    axiom_value_by line (EquivalentClasses cs) known whole =
        let is : Items = all_items line (part_phrases o (parts_of cs)) in
        keywords.equivalent_value ps line is is (plain_parts o line (parts_of cs)) s
        ∙ ap (λ ds. one_axiom line (EquivalentClasses ds)) (listed_parts line cs known whole)
    axiom_value_by line (DisjointClasses cs) known whole =
        let is : Items = all_items line (part_phrases o (parts_of cs)) in
        keywords.disjoint_value ps line is is (plain_parts o line (parts_of cs)) s
        ∙ ap (λ ds. one_axiom line (DisjointClasses ds)) (listed_parts line cs known whole)
    axiom_value_by line (DisjointUnion c cs) known whole =
        let others : Items = all_items line (part_phrases o (parts_of cs)) in
        let is : Items = item (item_of line (concept_phrase o c)) others in
        let named : is_named c ≡ true = (and_parts (is_named c) (are_whole (parts_of cs)) whole).0 in
        let first : class_named s (iri_of ps (item_of line (concept_phrase o c))) ≡ c =
        named_value line c named
        ∙ concept_value line c (and_parts (listed c) (all_listed (parts_of cs)) known).0 (named_alone c named).0 in
        let rest : part_list (concepts_of ps s others) ≡ cs =
        listed_parts line cs (and_parts (listed c) (all_listed (parts_of cs)) known).1
        (and_parts (is_named c) (are_whole (parts_of cs)) whole).1 in
        keywords.disjoint_union_value ps line is is (plain_first o line c others) s
        ∙ (λ i. one_axiom line (DisjointUnion (first i) (rest i)))
    axiom_value_by line (SubRole r t) known whole =
        let is : Items = all_items line (role_phrases o (r ∷ t ∷ [])) in
        let first : role_of ps s (item_of line (role_phrase o r)) ≡ r =
        role_value line r (and_parts (known_role r) (known_role t) known).0 in
        let second : role_of ps s (item_of line (role_phrase o t)) ≡ t =
        role_value line t (and_parts (known_role r) (known_role t) known).1 in
        keywords.sub_role_value ps line is is refl s ∙ (λ i. one_axiom line (SubRole (first i) (second i)))
    axiom_value_by line (EquivalentRoles rs) known whole =
        let is : Items = all_items line (role_phrases o rs) in
        keywords.equivalent_roles_value ps line is is (plain_roles o line rs) s
        ∙ ap (λ ts. one_axiom line (EquivalentRoles ts)) (roles_value line rs known)
    axiom_value_by line (Domain r c) known whole =
        let is : Items = all_items line (two (role_phrase o r) (concept_phrase o c)) in
        let first : role_of ps s (item_of line (role_phrase o r)) ≡ r =
        role_value line r (and_parts (known_role r) (listed c) known).0 in
        let second : concept_of ps s (item_of line (concept_phrase o c)) ≡ c =
        concept_value line c (and_parts (known_role r) (listed c) known).1 whole in
        keywords.domain_value ps line is is refl s ∙ (λ i. one_axiom line (Domain (first i) (second i)))
    axiom_value_by line (Range r c) known whole =
        let is : Items = all_items line (two (role_phrase o r) (concept_phrase o c)) in
        let first : role_of ps s (item_of line (role_phrase o r)) ≡ r =
        role_value line r (and_parts (known_role r) (listed c) known).0 in
        let second : concept_of ps s (item_of line (concept_phrase o c)) ≡ c =
        concept_value line c (and_parts (known_role r) (listed c) known).1 whole in
        keywords.range_value ps line is is refl s ∙ (λ i. one_axiom line (Range (first i) (second i)))
    axiom_value_by line (Functional r) known whole =
        let is : Items = all_items line (role_phrases o (r ∷ [])) in
        keywords.functional_value ps line is is refl s
        ∙ ap (λ k. one_axiom line (Functional k)) (role_value line r known)
    axiom_value_by line (Transitive r) known whole =
        let is : Items = all_items line (role_phrases o (r ∷ [])) in
        keywords.transitive_value ps line is is refl s
        ∙ ap (λ k. one_axiom line (Transitive k)) (role_value line r known)
    axiom_value_by line (Member c a) known whole =
        let both = and_parts (listed c) (nat_lt a (length o.individuals)) known in
        let is : Items =
        item (item_of line (concept_phrase o c)) (item (item_of line (individual_phrase o a)) no_items) in
        let first : concept_of ps s (item_of line (concept_phrase o c)) ≡ c = concept_value line c both.0 whole in
        let second : individual_of ps s (item_of line (individual_phrase o a)) ≡ a = individual_value line a both.1 in
        keywords.member_value ps line is is
        (plain_first o line c (item (item_of line (individual_phrase o a)) no_items)) s
        ∙ (λ i. one_axiom line (Member (first i) (second i)))
    axiom_value_by line (Pair r a b) known whole =
        let outer =
        and_parts (known_role r) (nat_lt a (length o.individuals) && nat_lt b (length o.individuals)) known in
        let inner = and_parts (nat_lt a (length o.individuals)) (nat_lt b (length o.individuals)) outer.1 in
        let is : Items = item (item_of line (role_phrase o r)) (all_items line (individual_phrases o (a ∷ b ∷ []))) in
        let role : role_of ps s (item_of line (role_phrase o r)) ≡ r = role_value line r outer.0 in
        let first : individual_of ps s (item_of line (individual_phrase o a)) ≡ a = individual_value line a inner.0 in
        let second : individual_of ps s (item_of line (individual_phrase o b)) ≡ b = individual_value line b inner.1 in
        keywords.pair_value ps line is is refl s ∙ (λ i. one_axiom line (Pair (role i) (first i) (second i)))
    axiom_value_by line (SameAll as_) known whole =
        let is : Items = all_items line (individual_phrases o as_) in
        keywords.same_value ps line is is (plain_individuals o line as_) s
        ∙ ap (λ bs. one_axiom line (SameAll bs)) (individuals_value line as_ known)
    axiom_value_by line (Different as_) known whole =
        let is : Items = all_items line (individual_phrases o as_) in
        keywords.different_value ps line is is (plain_individuals o line as_) s
        ∙ ap (λ bs. one_axiom line (Different bs)) (individuals_value line as_ known)

    pub axiom_value : (line : ℕ) (a : Axiom)
        → axiom_uses_listed (length o.classes) (length o.roles) (length o.individuals) a ≡ true
        → is_whole_axiom a ≡ true → axiom_in ps s (item_of line (axiom_phrase o a)) ≡ one_axiom line a
    axiom_value line a known whole =
        axiom_value_by line a known (and_parts (has_item_count a) (has_whole_items a) whole).1
