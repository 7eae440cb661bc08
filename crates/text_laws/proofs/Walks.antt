-- The tests of class expressions and axioms whose names are listed already.
use Rattle.std.proofs.Common.{◌≡◌, ℕ, ◌+◌, ◌<◌, ◌≤◌, Bool, true, false, cond, List, [], ◌∷◌, ◌++◌, length, Option, Some}
use Rattle.std.proofs.Common.{None, Ok, Err, refl, ap, ◌∙◌, arith, codes, decimal, nat_lt}
use Rattle.std.specs.Prelude.{nat_le, slice_index_or, is_some}
use Rattle.std.specs.List.{list_all}
use Rattle.std.proofs.lemmas.Bool.{and_parts}
use Rattle.shq_terms.specs.Concept.{Concept, top, bottom, name, complement, intersection, union, some_of, all_of}
use Rattle.shq_terms.specs.Concept.{at_least, at_most, exactly, Parts, no_parts, part, part_list}
use Rattle.shq_terms.specs.Listed.{Listed}
use Rattle.shq_terms.specs.Names.{with_at, with_name}
use Rattle.shq_terms.specs.Uses.{uses_listed, parts_use_listed}
use Rattle.ofn_tree.specs.Items.{name_item, Items}
use Rattle.ofn_expressions.specs.Counts.{Counts}
use Rattle.ofn_expressions.specs.Walk.{Test, shape, prefix, nodes, class, role, individual, number, holds, refusal}
use Rattle.ofn_expressions.specs.Walk.{counts_after, walked}
use Rattle.ofn_expressions.specs.Names.{Prefix, prefix_iri, full_iri}
use Rattle.ofn_expressions.specs.Constructs.{excluded_role_name}
use Rattle.ofn_expressions.specs.Classes.{item_count, is_spelled, is_thing, is_nothing, listed_class, listed_role}
use Rattle.ofn_expressions.specs.Classes.{role_tests}
use Rattle.ofn_expressions.specs.Classes.{roles_tests, number_tests, number_tests_of, joined, class_tests, each_class}
use Rattle.ofn_expressions.specs.Classes.{class_name_tests, place}
use Rattle.ofn_expressions.specs.Individuals.{individual_tests, individuals_tests}
use Rattle.ofn_expressions.proofs.Walks.{walked-cons, goes_on}
use Rattle.ofn_reader.specs.Held.{expressions, all_expressions}
use Rattle.text_laws.specs.WritingLaws.{owl_iri, KnowsOwl}
use Rattle.text_laws.proofs.Whole.{is_whole, are_whole}
use Rattle.text_laws.proofs.Checks.{le_true, true_lt, true_le}
use Rattle.text_laws.proofs.Phrases.{item_of, all_items}
use Rattle.text_laws.proofs.Terms.{class_phrase, role_phrase, individual_phrase, individual_phrases, concept_phrase}
use Rattle.text_laws.proofs.Terms.{part_phrases, role_phrases, decimal_number}
use Rattle.text_laws.proofs.Keywords.{group_tests, intersection_tests, union_tests, complement_tests, some_tests}
use Rattle.text_laws.proofs.Keywords.{all_tests, least_tests, most_tests, exact_tests}

-- a test that holds, and then the others
pub step : (s : Counts) (t : Test) (ts : List Test) → holds s t ≡ true
    → walked s (t ∷ ts) ≡ walked (counts_after s t) ts
step s t ts h = walked-cons s t ts ∙ ap (λ b. cond b (walked (counts_after s t) ts) (Err (refusal t))) h

pub alone : (s mid : Counts) (ts : List Test) → walked s ts ≡ Ok mid → walked s (ts ++ []) ≡ Ok mid
alone s mid ts h = goes_on s mid ts [] h

-- the names stand at their places, and are names of classes, of roles and of individuals
pub record AreKnown (o : Listed) : Type 0 where
  pub no_thing : (a : ℕ) → a < length o.classes → is_thing (slice_index_or o.classes a []) ≡ false
  pub no_nothing : (a : ℕ) → a < length o.classes → is_nothing (slice_index_or o.classes a []) ≡ false
  pub class_place : (a : ℕ) → a < length o.classes → place (slice_index_or o.classes a []) o.classes ≡ Some a
  pub no_excluded : (r : ℕ) → r < length o.roles → excluded_role_name (slice_index_or o.roles r []) ≡ None
  pub role_place : (r : ℕ) → r < length o.roles → place (slice_index_or o.roles r []) o.roles ≡ Some r
  pub individual_place : (i : ℕ) → i < length o.individuals
      → place (slice_index_or o.individuals i []) o.individuals ≡ Some i
  pub few_classes : length o.classes ≤ 20000
  pub few_roles : length o.roles ≤ 1000
  pub few_individuals : length o.individuals ≤ 20000

-- all names are listed, and so many axioms, parts and nodes are counted
abbrev pub counted : Listed → ℕ → ℕ → ℕ → Counts
counted o a p n =
    record { axioms = a; parts = p; nodes = n; classes = o.classes; roles = o.roles; individuals = o.individuals }

module _ (ps : List Prefix) (knows : KnowsOwl ps) (o : Listed) (names : AreKnown o) (a p : ℕ) where
  with_known : (w : List ℕ) (all : List (List ℕ)) (k : ℕ) → place w all ≡ Some k → with_name all w ≡ all
  with_known w all k known = ap (λ r. with_at r all w) known

  nodes_step : (n k line : ℕ) (ts : List Test) → n + k ≤ 262144
      → walked (counted o a p n) (nodes line k ∷ ts) ≡ walked (counted o a p (n + k)) ts
  nodes_step n k line ts few = step (counted o a p n) (nodes line k) ts (le_true (n + k) 262144 few)

  class_step : (n line c : ℕ) (ts : List Test) → c < length o.classes
      → walked (counted o a p n) (class line (slice_index_or o.classes c []) ∷ ts) ≡ walked (counted o a p n) ts
  class_step n line c ts less =
      let w : List ℕ = slice_index_or o.classes c [] in
      let same : with_name o.classes w ≡ o.classes = with_known w o.classes c (names.class_place c less) in
      step (counted o a p n) (class line w) ts
      (ap (λ l. nat_le (length l) 20000) same ∙ le_true (length o.classes) 20000 names.few_classes)
      ∙ ap (λ l. walked
      (record { axioms = a; parts = p; nodes = n; classes = l; roles = o.roles; individuals = o.individuals }) ts)
      same

  role_step : (n line r : ℕ) (ts : List Test) → r < length o.roles
      → walked (counted o a p n) (role line (slice_index_or o.roles r []) ∷ ts) ≡ walked (counted o a p n) ts
  role_step n line r ts less =
      let w : List ℕ = slice_index_or o.roles r [] in
      let same : with_name o.roles w ≡ o.roles = with_known w o.roles r (names.role_place r less) in
      step (counted o a p n) (role line w) ts
      (ap (λ l. nat_le (length l) 1000) same ∙ le_true (length o.roles) 1000 names.few_roles)
      ∙ ap (λ l. walked
      (record { axioms = a; parts = p; nodes = n; classes = o.classes; roles = l; individuals = o.individuals }) ts)
      same

  individual_step : (n line i : ℕ) (ts : List Test) → i < length o.individuals
      → walked (counted o a p n) (individual line (slice_index_or o.individuals i []) ∷ ts)
      ≡ walked (counted o a p n) ts
  individual_step n line i ts less =
      let w : List ℕ = slice_index_or o.individuals i [] in
      let same : with_name o.individuals w ≡ o.individuals =
      with_known w o.individuals i (names.individual_place i less) in
      step (counted o a p n) (individual line w) ts
      (ap (λ l. nat_le (length l) 20000) same ∙ le_true (length o.individuals) 20000 names.few_individuals)
      ∙ ap (λ l. walked
      (record { axioms = a; parts = p; nodes = n; classes = o.classes; roles = o.roles; individuals = l }) ts)
      same

  -- ---- names

  pub role_walk : (n line r : ℕ) → r < length o.roles
      → walked (counted o a p n) (role_tests ps (item_of line (role_phrase o r))) ≡ Ok (counted o a p n)
  role_walk n line r less =
      let w : List ℕ = slice_index_or o.roles r [] in
      ap (λ e. walked (counted o a p n) (listed_role e line w)) (names.no_excluded r less) ∙ role_step n line r [] less

  pub individual_walk : (n line i : ℕ) → i < length o.individuals
      → walked (counted o a p n) (individual_tests ps (item_of line (individual_phrase o i))) ≡ Ok (counted o a p n)
  individual_walk n line i less = individual_step n line i [] less

  pub individuals_walk : (n line : ℕ) (is : List ℕ) → list_all (λ i. nat_lt i (length o.individuals)) is ≡ true
      → walked (counted o a p n) (individuals_tests ps (all_items line (individual_phrases o is)))
      ≡ Ok (counted o a p n)
  individuals_walk n line [] known = refl
  individuals_walk n line (i ∷ is) known =
      let here : Bool = nat_lt i (length o.individuals) in
      let others : Bool = list_all (λ j. nat_lt j (length o.individuals)) is in
      goes_on (counted o a p n) (counted o a p n) (individual_tests ps (item_of line (individual_phrase o i)))
      (individuals_tests ps (all_items line (individual_phrases o is)))
      (individual_walk n line i (true_lt i (length o.individuals) (and_parts here others known).0))
      ∙ individuals_walk n line is (and_parts here others known).1

  class_name_walk : (n line c : ℕ) → c < length o.classes → n + 1 ≤ 262144
      → walked (counted o a p n) (class_name_tests ps (item_of line (class_phrase o c))) ≡ Ok (counted o a p (n + 1))
  class_name_walk n line c less few =
      let w : List ℕ = slice_index_or o.classes c [] in
      nodes_step n 1 line (listed_class line w) few
      ∙ (λ i. walked (counted o a p (n + 1))
      (cond (names.no_thing c less i) [] (cond (names.no_nothing c less i) [] (class line w ∷ []))))
      ∙ class_step (n + 1) line c [] less

  -- a name with the prefix of `owl:Thing`
  abbrev owl_tests : Option (List ℕ) → List ℕ → ℕ → List Test
  owl_tests iri rest line =
      shape line true ∷ (prefix line (is_some iri) ∷ (nodes line 1 ∷ listed_class line (full_iri iri rest)))

  owl_walk : (n line : ℕ) (rest : List ℕ) → listed_class line (full_iri (Some owl_iri) rest) ≡ [] → n + 1 ≤ 262144
      → walked (counted o a p n) (owl_tests (prefix_iri ps (codes "owl")) rest line) ≡ Ok (counted o a p (n + 1))
  owl_walk n line rest none few =
      ap (λ r. walked (counted o a p n) (owl_tests r rest line)) knows
      ∙ ap (λ ts. walked (counted o a p n) (shape line true ∷ (prefix line true ∷ (nodes line 1 ∷ ts)))) none
      ∙ step (counted o a p n) (shape line true) (prefix line true ∷ (nodes line 1 ∷ [])) refl
      ∙ step (counted o a p n) (prefix line true) (nodes line 1 ∷ []) refl
      ∙ nodes_step n 1 line [] few

  thing_walk : (n line : ℕ) → n + 1 ≤ 262144
      → walked (counted o a p n) (class_name_tests ps (name_item (codes "owl:Thing") line)) ≡ Ok (counted o a p (n + 1))
  unfolding is_spelled
  thing_walk n line few = owl_walk n line (codes "Thing") refl few

  nothing_walk : (n line : ℕ) → n + 1 ≤ 262144
      → walked (counted o a p n) (class_name_tests ps (name_item (codes "owl:Nothing") line))
      ≡ Ok (counted o a p (n + 1))
  unfolding is_spelled
  nothing_walk n line few = owl_walk n line (codes "Nothing") refl few

  -- ---- groups

  group_walk : (n line : ℕ) (all : List Test) (enough : Bool) (inner : List Test) → all ≡ group_tests line enough inner
      → enough ≡ true → n + 1 ≤ 262144 → walked (counted o a p n) all ≡ walked (counted o a p (n + 1)) inner
  group_walk n line all enough inner is h few =
      ap (walked (counted o a p n)) is
      ∙ nodes_step n 1 line (shape line enough ∷ inner) few
      ∙ step (counted o a p (n + 1)) (shape line enough) inner h

  number_walk : (n line k : ℕ) (ts : List Test) → k ≤ 100
      → walked (counted o a p n) (number_tests (name_item (decimal k) line) ++ ts) ≡ walked (counted o a p n) ts
  number_walk n line k ts few =
      ap (λ r. walked (counted o a p n) (number_tests_of line r ++ ts)) (decimal_number k few)
      ∙ step (counted o a p n) (number line k) ts (le_true k 100 few)

  abbrev listed : Concept → Bool
  listed c = uses_listed (length o.classes) (length o.roles) c

  abbrev all_listed : Parts → Bool
  all_listed cs = parts_use_listed (length o.classes) (length o.roles) cs

  abbrev Walks : ℕ → ℕ → Concept → Type 0
  Walks n line c =
      walked (counted o a p n) (class_tests ps (item_of line (concept_phrase o c)))
      ≡ Ok (counted o a p (n + expressions c))

  sum_of : (n k m : ℕ) → n + k + m ≡ n + (k + m)
  sum_of n k m = omega arith

  valued_walk : (n line r : ℕ) (c : Concept) (all : List Test)
      → all ≡ group_tests line true
      (role_tests ps (item_of line (role_phrase o r)) ++ (class_tests ps (item_of line (concept_phrase o c)) ++ []))
      → nat_lt r (length o.roles) ≡ true → n + (1 + expressions c) ≤ 262144 → Walks (n + 1) line c
      → walked (counted o a p n) all ≡ Ok (counted o a p (n + (1 + expressions c)))
  valued_walk n line r c all is less few inner =
      let ts : List Test = class_tests ps (item_of line (concept_phrase o c)) in
      let rs : List Test = role_tests ps (item_of line (role_phrase o r)) in
      group_walk n line all true (rs ++ (ts ++ [])) is refl (omega (arith, few))
      ∙ goes_on (counted o a p (n + 1)) (counted o a p (n + 1)) rs (ts ++ [])
      (role_walk (n + 1) line r (true_lt r (length o.roles) less))
      ∙ alone (counted o a p (n + 1)) (counted o a p (n + 1 + expressions c)) ts inner
      ∙ ap (λ m. Ok (counted o a p m)) (sum_of n 1 (expressions c))

  bounded_walk : (n line k r : ℕ) (c : Concept) (all : List Test)
      → all ≡ group_tests line true
      (number_tests (name_item (decimal k) line)
      ++ (role_tests ps (item_of line (role_phrase o r)) ++ (class_tests ps (item_of line (concept_phrase o c)) ++ [])))
      → nat_le k 100 ≡ true → nat_lt r (length o.roles) ≡ true → n + (1 + expressions c) ≤ 262144 → Walks (n + 1) line c
      → walked (counted o a p n) all ≡ Ok (counted o a p (n + (1 + expressions c)))
  bounded_walk n line k r c all is small less few inner =
      let ts : List Test = class_tests ps (item_of line (concept_phrase o c)) in
      let rs : List Test = role_tests ps (item_of line (role_phrase o r)) in
      group_walk n line all true (number_tests (name_item (decimal k) line) ++ (rs ++ (ts ++ []))) is refl
      (omega (arith, few))
      ∙ number_walk (n + 1) line k (rs ++ (ts ++ [])) (true_le k 100 small)
      ∙ goes_on (counted o a p (n + 1)) (counted o a p (n + 1)) rs (ts ++ [])
      (role_walk (n + 1) line r (true_lt r (length o.roles) less))
      ∙ alone (counted o a p (n + 1)) (counted o a p (n + 1 + expressions c)) ts inner
      ∙ ap (λ m. Ok (counted o a p m)) (sum_of n 1 (expressions c))

  pub count_parts : (line : ℕ) (cs : Parts) → item_count (all_items line (part_phrases o cs)) ≡ length (part_list cs)
  count_parts line no_parts = refl
  count_parts line (part c cs) = omega (arith, count_parts line cs)

  -- an intersection or a union
  parts_walk_in : (n line : ℕ) (cs : Parts) (all : List Test)
      → all ≡ group_tests line (nat_le 2 (item_count (all_items line (part_phrases o cs))))
      (joined (each_class ps (all_items line (part_phrases o cs))))
      → nat_le 2 (length (part_list cs)) ≡ true → n + (1 + all_expressions cs) ≤ 262144
      → walked (counted o a p (n + 1)) (joined (each_class ps (all_items line (part_phrases o cs))))
      ≡ Ok (counted o a p (n + 1 + all_expressions cs))
      → walked (counted o a p n) all ≡ Ok (counted o a p (n + (1 + all_expressions cs)))
  parts_walk_in n line cs all is many few inner =
      let items : Items = all_items line (part_phrases o cs) in
      group_walk n line all (nat_le 2 (item_count items)) (joined (each_class ps items)) is
      (ap (nat_le 2) (count_parts line cs) ∙ many) (omega (arith, few))
      ∙ inner
      ∙ ap (λ m. Ok (counted o a p m)) (sum_of n 1 (all_expressions cs))

  mutual
    pub concept_walk : (n line : ℕ) (c : Concept) → listed c ≡ true → is_whole c ≡ true → n + expressions c ≤ 262144
        → Walks n line c
    concept_walk n line top known whole few = thing_walk n line few
    concept_walk n line bottom known whole few = nothing_walk n line few
    concept_walk n line (name c) known whole few = class_name_walk n line c (true_lt c (length o.classes) known) few
    concept_walk n line (complement c) known whole few =
        let inner : n + 1 + expressions c ≤ 262144 = omega (arith, few) in
        group_walk n line (class_tests ps (item_of line (concept_phrase o (complement c)))) true
        (class_tests ps (item_of line (concept_phrase o c)) ++ [])
        (complement_tests ps line (item_of line (concept_phrase o c))) refl (omega (arith, few))
        ∙ alone (counted o a p (n + 1)) (counted o a p (n + 1 + expressions c))
        (class_tests ps (item_of line (concept_phrase o c))) (concept_walk (n + 1) line c known whole inner)
        ∙ ap (λ m. Ok (counted o a p m)) (sum_of n 1 (expressions c))
    concept_walk n line (intersection cs) known whole few =
        let inner : n + 1 + all_expressions cs ≤ 262144 = omega (arith, few) in
        parts_walk_in n line cs (class_tests ps (item_of line (concept_phrase o (intersection cs))))
        (intersection_tests ps line (all_items line (part_phrases o cs)))
        (and_parts (nat_le 2 (length (part_list cs))) (are_whole cs) whole).0 few
        (parts_walk (n + 1) line cs known (and_parts (nat_le 2 (length (part_list cs))) (are_whole cs) whole).1 inner)
    concept_walk n line (union cs) known whole few =
        let inner : n + 1 + all_expressions cs ≤ 262144 = omega (arith, few) in
        parts_walk_in n line cs (class_tests ps (item_of line (concept_phrase o (union cs))))
        (union_tests ps line (all_items line (part_phrases o cs)))
        (and_parts (nat_le 2 (length (part_list cs))) (are_whole cs) whole).0 few
        (parts_walk (n + 1) line cs known (and_parts (nat_le 2 (length (part_list cs))) (are_whole cs) whole).1 inner)
    concept_walk n line (some_of r c) known whole few =
        let inner : n + 1 + expressions c ≤ 262144 = omega (arith, few) in
        valued_walk n line r c (class_tests ps (item_of line (concept_phrase o (some_of r c))))
        (some_tests ps line (item_of line (role_phrase o r)) (item_of line (concept_phrase o c)))
        (and_parts (nat_lt r (length o.roles)) (listed c) known).0 few
        (concept_walk (n + 1) line c (and_parts (nat_lt r (length o.roles)) (listed c) known).1 whole inner)
    concept_walk n line (all_of r c) known whole few =
        let inner : n + 1 + expressions c ≤ 262144 = omega (arith, few) in
        valued_walk n line r c (class_tests ps (item_of line (concept_phrase o (all_of r c))))
        (all_tests ps line (item_of line (role_phrase o r)) (item_of line (concept_phrase o c)))
        (and_parts (nat_lt r (length o.roles)) (listed c) known).0 few
        (concept_walk (n + 1) line c (and_parts (nat_lt r (length o.roles)) (listed c) known).1 whole inner)
    concept_walk n line (at_least k r c) known whole few =
        let inner : n + 1 + expressions c ≤ 262144 = omega (arith, few) in
        bounded_walk n line k r c (class_tests ps (item_of line (concept_phrase o (at_least k r c))))
        (least_tests ps line (name_item (decimal k) line) (item_of line (role_phrase o r))
        (item_of line (concept_phrase o c)))
        (and_parts (nat_le k 100) (is_whole c) whole).0 (and_parts (nat_lt r (length o.roles)) (listed c) known).0 few
        (concept_walk (n + 1) line c (and_parts (nat_lt r (length o.roles)) (listed c) known).1
        (and_parts (nat_le k 100) (is_whole c) whole).1 inner)
    concept_walk n line (at_most k r c) known whole few =
        let inner : n + 1 + expressions c ≤ 262144 = omega (arith, few) in
        bounded_walk n line k r c (class_tests ps (item_of line (concept_phrase o (at_most k r c))))
        (most_tests ps line (name_item (decimal k) line) (item_of line (role_phrase o r))
        (item_of line (concept_phrase o c)))
        (and_parts (nat_le k 100) (is_whole c) whole).0 (and_parts (nat_lt r (length o.roles)) (listed c) known).0 few
        (concept_walk (n + 1) line c (and_parts (nat_lt r (length o.roles)) (listed c) known).1
        (and_parts (nat_le k 100) (is_whole c) whole).1 inner)
    concept_walk n line (exactly k r c) known whole few =
        let inner : n + 1 + expressions c ≤ 262144 = omega (arith, few) in
        bounded_walk n line k r c (class_tests ps (item_of line (concept_phrase o (exactly k r c))))
        (exact_tests ps line (name_item (decimal k) line) (item_of line (role_phrase o r))
        (item_of line (concept_phrase o c)))
        (and_parts (nat_le k 100) (is_whole c) whole).0 (and_parts (nat_lt r (length o.roles)) (listed c) known).0 few
        (concept_walk (n + 1) line c (and_parts (nat_lt r (length o.roles)) (listed c) known).1
        (and_parts (nat_le k 100) (is_whole c) whole).1 inner)

    pub parts_walk : (n line : ℕ) (cs : Parts) → all_listed cs ≡ true → are_whole cs ≡ true
        → n + all_expressions cs ≤ 262144
        → walked (counted o a p n) (joined (each_class ps (all_items line (part_phrases o cs))))
        ≡ Ok (counted o a p (n + all_expressions cs))
    parts_walk n line no_parts known whole few =
        let same : n ≡ n + 0 = omega arith in ap (λ m. Ok (counted o a p m)) same
    parts_walk n line (part c cs) known whole few =
        let first : n + expressions c ≤ 262144 = omega (arith, few) in
        let others : n + expressions c + all_expressions cs ≤ 262144 = omega (arith, few) in
        goes_on (counted o a p n) (counted o a p (n + expressions c))
        (class_tests ps (item_of line (concept_phrase o c)))
        (joined (each_class ps (all_items line (part_phrases o cs))))
        (concept_walk n line c (and_parts (listed c) (all_listed cs) known).0
        (and_parts (is_whole c) (are_whole cs) whole).0 first)
        ∙ parts_walk (n + expressions c) line cs (and_parts (listed c) (all_listed cs) known).1
        (and_parts (is_whole c) (are_whole cs) whole).1 others
        ∙ ap (λ m. Ok (counted o a p m)) (sum_of n (expressions c) (all_expressions cs))

  pub roles_walk : (n line : ℕ) (rs : List ℕ) → list_all (λ r. nat_lt r (length o.roles)) rs ≡ true
      → walked (counted o a p n) (roles_tests ps (all_items line (role_phrases o rs))) ≡ Ok (counted o a p n)
  roles_walk n line [] known = refl
  roles_walk n line (r ∷ rs) known =
      let here : Bool = nat_lt r (length o.roles) in
      let others : Bool = list_all (λ s. nat_lt s (length o.roles)) rs in
      goes_on (counted o a p n) (counted o a p n) (role_tests ps (item_of line (role_phrase o r)))
      (roles_tests ps (all_items line (role_phrases o rs)))
      (role_walk n line r (true_lt r (length o.roles) (and_parts here others known).0))
      ∙ roles_walk n line rs (and_parts here others known).1
