-- What axioms say whose tests hold.
use Rattle.std.proofs.Common.{◌≡◌, ℕ, ◌+◌, ◌-◌, ◌≤◌, Bool, true, false, cond, ◌&&◌, List, [], ◌∷◌, ◌++◌, length, Some}
use Rattle.std.proofs.Common.{None, Ok, refl, ap, sym, ◌∙◌, subst, arith, codes, nat_lt, length-append}
use Rattle.std.specs.Prelude.{nat_eq, nat_le}
use Rattle.std.specs.List.{list_all}
use Rattle.std.proofs.lemmas.List.Folds.{list_all-append}
use Rattle.std.proofs.lemmas.Bool.{and_parts, and_from}
use Rattle.shq_terms.specs.Concept.{Concept, Parts, no_parts, part, parts_of, part_list}
use Rattle.shq_terms.specs.Uses.{uses_listed, parts_use_listed, axiom_uses_listed, all_use_listed}
use Rattle.shq_terms.specs.declared.axioms.Axiom.{Axiom}
use Rattle.shq_terms.specs.declared.axioms.Axiom.TheVariants.{SubClassOf, EquivalentClasses, DisjointClasses}
use Rattle.shq_terms.specs.declared.axioms.Axiom.TheVariants.{DisjointUnion, SubRole, EquivalentRoles, Domain, Range}
use Rattle.shq_terms.specs.declared.axioms.Axiom.TheVariants.{Functional, Transitive, Member, Pair, SameAll, Different}
use Rattle.shq_terms.specs.declared.axioms.Numbered.{Numbered}
use Rattle.ofn_tree.specs.Items.{Item, name_item, iri_item, literal_item, sign_item, group_item, Items, no_items, item}
use Rattle.ofn_tree.specs.Items.{nesting, nesting_all}
use Rattle.ofn_expressions.specs.Counts.{Counts}
use Rattle.ofn_expressions.specs.Walk.{Test, shape, numbered, parts, counts_after, walked}
use Rattle.ofn_expressions.specs.Names.{Prefix, item_line, iri_of}
use Rattle.ofn_expressions.specs.Constructs.{excluded_role_name}
use Rattle.ofn_expressions.specs.Classes.{item_count, is_thing, is_nothing, listed_class, unless_excluded}
use Rattle.ofn_expressions.specs.Classes.{class_name_tests, role_tests, roles_tests, joined, each_class, class_named}
use Rattle.ofn_expressions.specs.Classes.{role_of, roles_of, class_tests, concept_of, concepts_of, Keeps}
use Rattle.ofn_expressions.specs.Individuals.{individuals_tests, individual_of, individuals_of}
use Rattle.ofn_reader.specs.Keywords.{axiom_keyword, entity_keyword}
use Rattle.ofn_reader.specs.Groups.{is_annotation, without_annotations}
use Rattle.ofn_reader.specs.Declarations.{declared_classes_tests, declared_roles_tests, declared_individuals_tests}
use Rattle.ofn_reader.specs.Declarations.{entity_tests, first_entity_tests, declaration_tests}
use Rattle.ofn_reader.specs.Axioms.{pair_count, role_and_class_tests, name_and_class_tests, class_and_individual_tests}
use Rattle.ofn_reader.specs.Axioms.{role_and_individual_tests, axiom_tests, axioms_tests, axiom_in, axioms_in}
use Rattle.ofn_reader.specs.Axioms.{numbered_at, sub_class_made, union_made, sub_role_made, domain_made, range_made}
use Rattle.ofn_reader.specs.Axioms.{functional_made, transitive_made, member_made, pair_made}
use Rattle.ofn_reader.specs.Held.{expressions, all_expressions, axiom_expressions}
use Rattle.text_laws.specs.Writable.{most_brackets, is_named, axiom_brackets}
use Rattle.text_laws.proofs.Whole.{is_whole, are_whole, has_item_count, has_whole_items, is_whole_axiom, counted_parts}
use Rattle.text_laws.proofs.Whole.{total}
use Rattle.text_laws.proofs.Checks.{true_le, le_true, eq_true}
use Rattle.text_laws.proofs.Keywords as keywords
use Rattle.text_laws.proofs.Keywords.{axiom_group_tests}
use Rattle.text_laws.proofs.Terms.{named_alone}
use Rattle.text_laws.proofs.GoodTokens.{IsGoodItem, AreGoodItems}
use Rattle.text_laws.proofs.GoodNames.{iri_good}
use Rattle.text_laws.proofs.Counting.{held, both, nothing_held, never, keeps_before, Rises, rises_not, rises_both}
use Rattle.text_laws.proofs.Counting.{rises_as, rises_numbered, rises_parts}
use Rattle.text_laws.proofs.Words.{NoAxiom, axiom_words, NoEntity, entity_words}
use Rattle.text_laws.proofs.ReadClasses.{role_read, roles_read, individual_read, individuals_read, class_read}
use Rattle.text_laws.proofs.ReadClasses.{class_name_read, named_class, parts_read, count_read, filler_read}
use Rattle.text_laws.proofs.ReadClasses.{all_classes_read, names_pass, listed_by, declared_role_by}

parts_again : (cs : Parts) → parts_of (part_list cs) ≡ cs
parts_again no_parts = refl
parts_again (part c cs) = ap (part c) (parts_again cs)

pub total_append : (g : Axiom → ℕ) (xs ys : List Numbered) → total g (xs ++ ys) ≡ total g xs + total g ys
total_append g [] ys = omega arith
total_append g (x ∷ xs) ys = omega (arith, total_append g xs ys)

pub uses_append : (m n k : ℕ) (xs ys : List Numbered) → all_use_listed m n k xs ≡ true → all_use_listed m n k ys ≡ true
    → all_use_listed m n k (xs ++ ys) ≡ true
uses_append m n k [] ys first second = second
uses_append m n k (x ∷ xs) ys first second =
    and_from (axiom_uses_listed m n k x.axiom) (all_use_listed m n k (xs ++ ys))
    (and_parts (axiom_uses_listed m n k x.axiom) (all_use_listed m n k xs) first).0
    (uses_append m n k xs ys (and_parts (axiom_uses_listed m n k x.axiom) (all_use_listed m n k xs) first).1 second)

-- items behind annotations
pub plain_good : (is : Items) → AreGoodItems is → AreGoodItems (without_annotations is)
plain_good no_items good = tt
plain_good (item i is) good = by (is_annotation i) (plain_good is good.1)
  where
    by : (v : Bool) → AreGoodItems (without_annotations is) → AreGoodItems (cond v (without_annotations is) (item i is))
    by true rest = rest
    by false rest = good

plain_nests : (is : Items) → nesting_all (without_annotations is) ≤ nesting_all is
plain_nests no_items = omega arith
plain_nests (item i is) = by (is_annotation i) (plain_nests is)
  where
    by : (v : Bool) → nesting_all (without_annotations is) ≤ nesting_all is
        → nesting_all (cond v (without_annotations is) (item i is)) ≤ nesting_all (item i is)
    by true rest = omega (arith, rest)
    by false rest = omega arith

-- brackets nest no deeper than this inside the bracket of an axiom
module _ (ps : List Prefix) (f : Counts) (deepest : ℕ) where
  -- these axioms are read
  pub record AreSaid (s new : Counts) (as_ : List Numbered) : Type 0 where
    pub rises : Rises ps s new (length as_) (total counted_parts as_) (total axiom_expressions as_)
    pub listed : all_use_listed (length f.classes) (length f.roles) (length f.individuals) as_ ≡ true
    pub whole : list_all (λ (a : Numbered). is_whole_axiom a.axiom) as_ ≡ true
    pub nested : list_all (λ (a : Numbered). nat_le (axiom_brackets a.axiom) (deepest + 1)) as_ ≡ true

  none_said : (s new : Counts) → Rises ps s new 0 0 0 → AreSaid s new []
  none_said s new rises = record { rises = rises; listed = refl; whole = refl; nested = refl }

  one_said : (s new : Counts) (n : ℕ) (a : Axiom) → Rises ps s new 1 (counted_parts a) (axiom_expressions a)
      → axiom_uses_listed (length f.classes) (length f.roles) (length f.individuals) a ≡ true → has_item_count a ≡ true
      → has_whole_items a ≡ true → axiom_brackets a ≤ deepest + 1
      → AreSaid s new (numbered_at n (a ∷ []))
  one_said s new n a rises listed enough whole nested =
      let p : counted_parts a ≡ counted_parts a + 0 = omega arith in
      let e : axiom_expressions a ≡ axiom_expressions a + 0 = omega arith in
      record {
        rises =
            rises_as ps s new 1 (counted_parts a) (axiom_expressions a) 1 (counted_parts a + 0)
            (axiom_expressions a + 0) refl p e rises;
        listed =
            and_from (axiom_uses_listed (length f.classes) (length f.roles) (length f.individuals) a) true listed refl;
        whole = and_from (is_whole_axiom a) true (and_from (has_item_count a) (has_whole_items a) enough whole) refl;
        nested =
            and_from (nat_le (axiom_brackets a) (deepest + 1)) true (le_true (axiom_brackets a) (deepest + 1) nested)
            refl;
      }

  said_as : (s new : Counts) (xs ys : List Numbered) → ys ≡ xs → AreSaid s new xs → AreSaid s new ys
  said_as s new xs ys same said = subst (λ l. AreSaid s new l) (sym same) said

  both_said : (s mid new : Counts) (xs ys : List Numbered) → AreSaid s mid xs → AreSaid mid new ys
      → AreSaid s new (xs ++ ys)
  both_said s mid new xs ys first second = record {
    rises =
        rises_as ps s new (length xs + length ys) (total counted_parts xs + total counted_parts ys)
        (total axiom_expressions xs + total axiom_expressions ys) (length (xs ++ ys)) (total counted_parts (xs ++ ys))
        (total axiom_expressions (xs ++ ys))
        (sym (length-append xs ys)) (sym (total_append counted_parts xs ys))
        (sym (total_append axiom_expressions xs ys))
        (rises_both ps s mid new (length xs) (total counted_parts xs) (total axiom_expressions xs) (length ys)
        (total counted_parts ys) (total axiom_expressions ys) first.rises second.rises);
    listed = uses_append (length f.classes) (length f.roles) (length f.individuals) xs ys first.listed second.listed;
    whole =
        list_all-append (λ (a : Numbered). is_whole_axiom a.axiom) xs ys
        ∙ and_from (list_all (λ (a : Numbered). is_whole_axiom a.axiom) xs)
        (list_all (λ (a : Numbered). is_whole_axiom a.axiom) ys) first.whole second.whole;
    nested =
        list_all-append (λ (a : Numbered). nat_le (axiom_brackets a.axiom) (deepest + 1)) xs ys
        ∙ and_from (list_all (λ (a : Numbered). nat_le (axiom_brackets a.axiom) (deepest + 1)) xs)
        (list_all (λ (a : Numbered). nat_le (axiom_brackets a.axiom) (deepest + 1)) ys) first.nested second.nested;
  }

  -- ---- the head of an axiom

  record Begins (s new : Counts) (n : ℕ) (enough : Bool) (k : ℕ) (ts : List Test) : Type 0 where
    mid : Counts
    rises : Rises ps s mid 1 k 0
    fits : enough ≡ true
    later : walked mid ts ≡ Ok new

  begins : (s new : Counts) (n : ℕ) (enough : Bool) (k : ℕ) (ts : List Test)
      → walked s (axiom_group_tests n enough k ts) ≡ Ok new → Begins s new n enough k ts
  begins s new n enough k ts h =
      let count = held s (numbered n) (shape n enough ∷ (parts n k ∷ ts)) new h in
      let one : Counts = counts_after s (numbered n) in
      let form = held one (shape n enough) (parts n k ∷ ts) new count.later in
      let more = held one (parts n k) ts new form.later in
      record {
        mid = counts_after one (parts n k);
        rises =
            rises_as ps s (counts_after one (parts n k)) (1 + 0) (0 + k) (0 + 0) 1 k 0 refl (omega arith) refl
            (rises_both ps s one (counts_after one (parts n k)) 1 0 0 0 k 0 (rises_numbered ps s n count.now)
            (rises_parts ps one n k more.now));
        fits = form.now;
        later = more.later;
      }

  -- ---- kinds of axioms, by their items

  abbrev listed : Concept → Bool
  listed c = uses_listed (length f.classes) (length f.roles) c

  abbrev known_role : ℕ → Bool
  known_role r = nat_lt r (length f.roles)

  abbrev Said : Counts → Counts → ℕ → List Axiom → Type 0
  Said s new n as_ = AreSaid s new (numbered_at n as_)

  sub_class_said : (n : ℕ) (is : Items) → AreGoodItems is → nesting_all is ≤ deepest → (s new : Counts)
      → walked s (axiom_group_tests n (nat_eq (item_count is) 2) 1 (joined (each_class ps is))) ≡ Ok new → Keeps new f
      → Said s new n (sub_class_made ps f is)
  sub_class_said n no_items good deep s new h keeps =
      let b = begins s new n (nat_eq 0 2) 1 [] h in let clash : false ≡ true = b.fits in absurd (cc clash)
  sub_class_said n (item i no_items) good deep s new h keeps =
      let b = begins s new n (nat_eq 1 2) 1 (joined (each_class ps (item i no_items))) h in
      let clash : false ≡ true = b.fits in absurd (cc clash)
  sub_class_said n (item i (item j (item k is))) good deep s new h keeps =
      let b =
      begins s new n (nat_eq (item_count is + 1 + 1 + 1) 2) 1 (joined (each_class ps (item i (item j (item k is)))))
      h in
      absurd (omega (arith, eq_true (item_count is + 1 + 1 + 1) 2 b.fits))
  sub_class_said n (item i (item j no_items)) good deep s new h keeps =
      let is : Items = item i (item j no_items) in
      let b = begins s new n true 1 (joined (each_class ps is)) h in
      let inner = parts_read ps f is (all_classes_read ps f is good) b.mid new b.later keeps in
      let c : Concept = concept_of ps f i in
      let d : Concept = concept_of ps f j in
      let nodes_are : 0 + (expressions c + (expressions d + 0)) ≡ expressions c + expressions d = omega arith in
      let second : (listed d && true) ≡ true = (and_parts (listed c) (listed d && true) inner.listed).1 in
      let whole : (is_whole d && true) ≡ true = (and_parts (is_whole c) (is_whole d && true) inner.whole).1 in
      one_said s new n (SubClassOf c d)
      (rises_as ps s new 1 1 (0 + (expressions c + (expressions d + 0))) 1 1 (expressions c + expressions d) refl refl
      nodes_are (rises_both ps s b.mid new 1 1 0 0 0 (expressions c + (expressions d + 0)) b.rises inner.rises))
      (and_from (listed c) (listed d) (and_parts (listed c) (listed d && true) inner.listed).0
      (and_parts (listed d) true second).0)
      refl
      (and_from (is_whole c) (is_whole d) (and_parts (is_whole c) (is_whole d && true) inner.whole).0
      (and_parts (is_whole d) true whole).0)
      (omega (arith, inner.nested, deep))

  -- equivalent and disjoint classes
  many_said : (con : List Concept → Axiom)
      → ((cs : List Concept)
      → axiom_uses_listed (length f.classes) (length f.roles) (length f.individuals) (con cs)
      ≡ parts_use_listed (length f.classes) (length f.roles) (parts_of cs))
      → ((cs : List Concept) → has_item_count (con cs) ≡ nat_le 2 (length cs))
      → ((cs : List Concept) → has_whole_items (con cs) ≡ are_whole (parts_of cs))
      → ((cs : List Concept) → axiom_expressions (con cs) ≡ all_expressions (parts_of cs))
      → ((cs : List Concept) → axiom_brackets (con cs) ≡ most_brackets (parts_of cs) + 1)
      → (count : ℕ → ℕ) → ((cs : List Concept) → counted_parts (con cs) ≡ count (length cs)) → (n : ℕ) (is : Items)
      → AreGoodItems is → nesting_all is ≤ deepest → (s new : Counts)
      → walked s (axiom_group_tests n (nat_le 2 (item_count is)) (count (item_count is)) (joined (each_class ps is)))
      ≡ Ok new
      → Keeps new f → Said s new n (con (part_list (concepts_of ps f is)) ∷ [])
  many_said con lists enough wholes nodes nests count counts n is good deep s new h keeps =
      let cs : Parts = concepts_of ps f is in
      let l : List Concept = part_list cs in
      let back : parts_of l ≡ cs = parts_again cs in
      let many : length l ≡ item_count is = count_read ps f is in
      let b = begins s new n (nat_le 2 (item_count is)) (count (item_count is)) (joined (each_class ps is)) h in
      let inner = parts_read ps f is (all_classes_read ps f is good) b.mid new b.later keeps in
      let parts_are : count (item_count is) + 0 ≡ counted_parts (con l) = omega (arith, counts l, ap count many) in
      let nodes_are : 0 + all_expressions cs ≡ axiom_expressions (con l) =
      omega (arith, nodes l, ap all_expressions back) in
      one_said s new n (con l)
      (rises_as ps s new 1 (count (item_count is) + 0) (0 + all_expressions cs) 1 (counted_parts (con l))
      (axiom_expressions (con l)) refl parts_are nodes_are
      (rises_both ps s b.mid new 1 (count (item_count is)) 0 0 0 (all_expressions cs) b.rises inner.rises))
      (lists l ∙ ap (parts_use_listed (length f.classes) (length f.roles)) back ∙ inner.listed)
      (enough l ∙ ap (nat_le 2) many ∙ b.fits)
      (wholes l ∙ ap are_whole back ∙ inner.whole)
      (omega (arith, nests l, ap most_brackets back, inner.nested, deep))

  union_said : (n : ℕ) (is : Items) → AreGoodItems is → nesting_all is ≤ deepest → (s new : Counts)
      → walked s
      (axiom_group_tests n (nat_le 3 (item_count is)) (item_count is + pair_count (item_count is - 1))
      (name_and_class_tests ps is))
      ≡ Ok new
      → Keeps new f
      → Said s new n (union_made ps f is)
  union_said n no_items good deep s new h keeps =
      let b = begins s new n (nat_le 3 0) (0 + pair_count (0 - 1)) [] h in
      let clash : false ≡ true = b.fits in absurd (cc clash)
  union_said n (item i is) good deep s new h keeps =
      let c : Concept = class_named f (iri_of ps i) in
      let cs : Parts = concepts_of ps f is in
      let l : List Concept = part_list cs in
      let back : parts_of l ≡ cs = parts_again cs in
      let many : length l ≡ item_count is = count_read ps f is in
      let k : ℕ = item_count is + 1 + pair_count (item_count is + 1 - 1) in
      let b = begins s new n (nat_le 3 (item_count is + 1)) k (name_and_class_tests ps (item i is)) h in
      let t = both b.mid (class_name_tests ps i) (joined (each_class ps is)) new b.later in
      let first =
      class_name_read ps f i b.mid t.mid 0 good.0 t.first
      (keeps_before b.mid t.mid new f (joined (each_class ps is)) t.second keeps) in
      let rest = parts_read ps f is (all_classes_read ps f is good.1) t.mid new t.second keeps in
      let named : is_named c ≡ true = named_class ps f (iri_of ps i) in
      let single : expressions c ≡ 1 = (named_alone c named).1 in
      let less : item_count is + 1 - 1 ≡ length l = omega (arith, many) in
      let k_is : k ≡ length l + 1 + pair_count (length l) = omega (arith, many, ap pair_count less) in
      let parts_are : k + (0 + 0) ≡ length l + 1 + pair_count (length l) = omega (arith, k_is) in
      let nodes_are : 0 + (expressions c + all_expressions cs) ≡ 1 + all_expressions (parts_of l) =
      omega (arith, single, ap all_expressions back) in
      let three : 3 ≤ item_count is + 1 = true_le 3 (item_count is + 1) b.fits in
      one_said s new n (DisjointUnion c l)
      (rises_as ps s new 1 (k + (0 + 0)) (0 + (expressions c + all_expressions cs)) 1
      (length l + 1 + pair_count (length l)) (1 + all_expressions (parts_of l)) refl parts_are nodes_are
      (rises_both ps s b.mid new 1 k 0 0 (0 + 0) (expressions c + all_expressions cs) b.rises
      (rises_both ps b.mid t.mid new 0 0 (expressions c) 0 0 (all_expressions cs) first.rises rest.rises)))
      (and_from (listed c) (parts_use_listed (length f.classes) (length f.roles) (parts_of l)) first.listed
      (ap (parts_use_listed (length f.classes) (length f.roles)) back ∙ rest.listed))
      (le_true 2 (length l) (omega (arith, many, three)))
      (and_from (is_named c) (are_whole (parts_of l)) named (ap are_whole back ∙ rest.whole))
      (omega (arith, ap most_brackets back, rest.nested, deep))

  -- roles
  sub_role_said : (n : ℕ) (is : Items) → AreGoodItems is → (s new : Counts)
      → walked s (axiom_group_tests n (nat_eq (item_count is) 2) 0 (roles_tests ps is)) ≡ Ok new → Keeps new f
      → Said s new n (sub_role_made ps f is)
  sub_role_said n no_items good s new h keeps =
      let b = begins s new n (nat_eq 0 2) 0 [] h in let clash : false ≡ true = b.fits in absurd (cc clash)
  sub_role_said n (item i no_items) good s new h keeps =
      let b = begins s new n (nat_eq 1 2) 0 (roles_tests ps (item i no_items)) h in
      let clash : false ≡ true = b.fits in absurd (cc clash)
  sub_role_said n (item i (item j (item k is))) good s new h keeps =
      let b =
      begins s new n (nat_eq (item_count is + 1 + 1 + 1) 2) 0 (roles_tests ps (item i (item j (item k is)))) h in
      absurd (omega (arith, eq_true (item_count is + 1 + 1 + 1) 2 b.fits))
  sub_role_said n (item i (item j no_items)) good s new h keeps =
      let is : Items = item i (item j no_items) in
      let b = begins s new n true 0 (roles_tests ps is) h in
      let inner = roles_read ps f is b.mid new good b.later keeps in
      let r : ℕ = role_of ps f i in
      let t : ℕ = role_of ps f j in
      let second : (known_role t && true) ≡ true = (and_parts (known_role r) (known_role t && true) inner.listed).1 in
      one_said s new n (SubRole r t) (rises_both ps s b.mid new 1 0 0 0 0 0 b.rises inner.rises)
      (and_from (known_role r) (known_role t) (and_parts (known_role r) (known_role t && true) inner.listed).0
      (and_parts (known_role t) true second).0)
      refl refl (omega arith)

  count_roles : (is : Items) → length (roles_of ps f is) ≡ item_count is
  count_roles no_items = refl
  count_roles (item i is) = omega (arith, count_roles is)

  equal_roles_said : (n : ℕ) (is : Items) → AreGoodItems is → (s new : Counts)
      → walked s (axiom_group_tests n (nat_le 2 (item_count is)) 0 (roles_tests ps is)) ≡ Ok new → Keeps new f
      → Said s new n (EquivalentRoles (roles_of ps f is) ∷ [])
  equal_roles_said n is good s new h keeps =
      let b = begins s new n (nat_le 2 (item_count is)) 0 (roles_tests ps is) h in
      let inner = roles_read ps f is b.mid new good b.later keeps in
      one_said s new n (EquivalentRoles (roles_of ps f is)) (rises_both ps s b.mid new 1 0 0 0 0 0 b.rises inner.rises)
      inner.listed (ap (nat_le 2) (count_roles is) ∙ b.fits) refl (omega arith)

  functional_said : (n : ℕ) (is : Items) → AreGoodItems is → (s new : Counts)
      → walked s (axiom_group_tests n (nat_eq (item_count is) 1) 1 (roles_tests ps is)) ≡ Ok new → Keeps new f
      → Said s new n (functional_made ps f is)
  functional_said n no_items good s new h keeps =
      let b = begins s new n (nat_eq 0 1) 1 [] h in let clash : false ≡ true = b.fits in absurd (cc clash)
  functional_said n (item i (item j is)) good s new h keeps =
      let b = begins s new n (nat_eq (item_count is + 1 + 1) 1) 1 (roles_tests ps (item i (item j is))) h in
      absurd (omega (arith, eq_true (item_count is + 1 + 1) 1 b.fits))
  functional_said n (item i no_items) good s new h keeps =
      let b = begins s new n true 1 (roles_tests ps (item i no_items)) h in
      let inner = roles_read ps f (item i no_items) b.mid new good b.later keeps in
      one_said s new n (Functional (role_of ps f i)) (rises_both ps s b.mid new 1 1 0 0 0 0 b.rises inner.rises)
      (and_parts (known_role (role_of ps f i)) true inner.listed).0 refl refl (omega arith)

  transitive_said : (n : ℕ) (is : Items) → AreGoodItems is → (s new : Counts)
      → walked s (axiom_group_tests n (nat_eq (item_count is) 1) 0 (roles_tests ps is)) ≡ Ok new → Keeps new f
      → Said s new n (transitive_made ps f is)
  transitive_said n no_items good s new h keeps =
      let b = begins s new n (nat_eq 0 1) 0 [] h in let clash : false ≡ true = b.fits in absurd (cc clash)
  transitive_said n (item i (item j is)) good s new h keeps =
      let b = begins s new n (nat_eq (item_count is + 1 + 1) 1) 0 (roles_tests ps (item i (item j is))) h in
      absurd (omega (arith, eq_true (item_count is + 1 + 1) 1 b.fits))
  transitive_said n (item i no_items) good s new h keeps =
      let b = begins s new n true 0 (roles_tests ps (item i no_items)) h in
      let inner = roles_read ps f (item i no_items) b.mid new good b.later keeps in
      one_said s new n (Transitive (role_of ps f i)) (rises_both ps s b.mid new 1 0 0 0 0 0 b.rises inner.rises)
      (and_parts (known_role (role_of ps f i)) true inner.listed).0 refl refl (omega arith)

  domain_said : (n : ℕ) (is : Items) → AreGoodItems is → nesting_all is ≤ deepest → (s new : Counts)
      → walked s (axiom_group_tests n (nat_eq (item_count is) 2) 1 (role_and_class_tests ps is)) ≡ Ok new → Keeps new f
      → Said s new n (domain_made ps f is)
  domain_said n no_items good deep s new h keeps =
      let b = begins s new n (nat_eq 0 2) 1 [] h in let clash : false ≡ true = b.fits in absurd (cc clash)
  domain_said n (item i no_items) good deep s new h keeps =
      let b = begins s new n (nat_eq 1 2) 1 (role_and_class_tests ps (item i no_items)) h in
      let clash : false ≡ true = b.fits in absurd (cc clash)
  domain_said n (item i (item j (item k is))) good deep s new h keeps =
      let b =
      begins s new n (nat_eq (item_count is + 1 + 1 + 1) 2) 1 (role_and_class_tests ps (item i (item j (item k is))))
      h in
      absurd (omega (arith, eq_true (item_count is + 1 + 1 + 1) 2 b.fits))
  domain_said n (item i (item j no_items)) good deep s new h keeps =
      let is : Items = item j no_items in
      let r : ℕ = role_of ps f i in
      let c : Concept = concept_of ps f j in
      let b = begins s new n true 1 (role_tests ps i ++ joined (each_class ps is)) h in
      let t = both b.mid (role_tests ps i) (joined (each_class ps is)) new b.later in
      let first =
      role_read ps f i b.mid t.mid good.0 t.first
      (keeps_before b.mid t.mid new f (joined (each_class ps is)) t.second keeps) in
      let nodes_are : 0 + (0 + expressions c) ≡ expressions c = omega arith in
      let inner = filler_read ps f is refl (all_classes_read ps f is good.1) t.mid new t.second keeps in
      one_said s new n (Domain r c)
      (rises_as ps s new (1 + 0) (1 + 0) (0 + (0 + expressions c)) 1 1 (expressions c) refl refl nodes_are
      (rises_both ps s b.mid new 1 1 0 0 0 (0 + expressions c) b.rises
      (rises_both ps b.mid t.mid new 0 0 0 0 0 (expressions c) first.rises inner.rises)))
      (and_from (known_role r) (listed c) first.listed inner.listed) refl inner.whole
      (omega (arith, inner.nested, deep))

  range_said : (n : ℕ) (is : Items) → AreGoodItems is → nesting_all is ≤ deepest → (s new : Counts)
      → walked s (axiom_group_tests n (nat_eq (item_count is) 2) 1 (role_and_class_tests ps is)) ≡ Ok new → Keeps new f
      → Said s new n (range_made ps f is)
  range_said n no_items good deep s new h keeps =
      let b = begins s new n (nat_eq 0 2) 1 [] h in let clash : false ≡ true = b.fits in absurd (cc clash)
  range_said n (item i no_items) good deep s new h keeps =
      let b = begins s new n (nat_eq 1 2) 1 (role_and_class_tests ps (item i no_items)) h in
      let clash : false ≡ true = b.fits in absurd (cc clash)
  range_said n (item i (item j (item k is))) good deep s new h keeps =
      let b =
      begins s new n (nat_eq (item_count is + 1 + 1 + 1) 2) 1 (role_and_class_tests ps (item i (item j (item k is))))
      h in
      absurd (omega (arith, eq_true (item_count is + 1 + 1 + 1) 2 b.fits))
  range_said n (item i (item j no_items)) good deep s new h keeps =
      let is : Items = item j no_items in
      let r : ℕ = role_of ps f i in
      let c : Concept = concept_of ps f j in
      let b = begins s new n true 1 (role_tests ps i ++ joined (each_class ps is)) h in
      let t = both b.mid (role_tests ps i) (joined (each_class ps is)) new b.later in
      let first =
      role_read ps f i b.mid t.mid good.0 t.first
      (keeps_before b.mid t.mid new f (joined (each_class ps is)) t.second keeps) in
      let nodes_are : 0 + (0 + expressions c) ≡ expressions c = omega arith in
      let inner = filler_read ps f is refl (all_classes_read ps f is good.1) t.mid new t.second keeps in
      one_said s new n (Range r c)
      (rises_as ps s new (1 + 0) (1 + 0) (0 + (0 + expressions c)) 1 1 (expressions c) refl refl nodes_are
      (rises_both ps s b.mid new 1 1 0 0 0 (0 + expressions c) b.rises
      (rises_both ps b.mid t.mid new 0 0 0 0 0 (expressions c) first.rises inner.rises)))
      (and_from (known_role r) (listed c) first.listed inner.listed) refl inner.whole
      (omega (arith, inner.nested, deep))

  -- assertions
  abbrev known_individual : ℕ → Bool
  known_individual a = nat_lt a (length f.individuals)

  member_said : (n : ℕ) (is : Items) → AreGoodItems is → nesting_all is ≤ deepest → (s new : Counts)
      → walked s (axiom_group_tests n (nat_eq (item_count is) 2) 1 (class_and_individual_tests ps is)) ≡ Ok new
      → Keeps new f → Said s new n (member_made ps f is)
  member_said n no_items good deep s new h keeps =
      let b = begins s new n (nat_eq 0 2) 1 [] h in let clash : false ≡ true = b.fits in absurd (cc clash)
  member_said n (item i no_items) good deep s new h keeps =
      let b = begins s new n (nat_eq 1 2) 1 (class_and_individual_tests ps (item i no_items)) h in
      let clash : false ≡ true = b.fits in absurd (cc clash)
  member_said n (item i (item j (item k is))) good deep s new h keeps =
      let b =
      begins s new n (nat_eq (item_count is + 1 + 1 + 1) 2) 1
      (class_and_individual_tests ps (item i (item j (item k is)))) h in
      absurd (omega (arith, eq_true (item_count is + 1 + 1 + 1) 2 b.fits))
  member_said n (item i (item j no_items)) good deep s new h keeps =
      let is : Items = item j no_items in
      let c : Concept = concept_of ps f i in
      let a : ℕ = individual_of ps f j in
      let b = begins s new n true 1 (class_tests ps i ++ individuals_tests ps is) h in
      let t = both b.mid (class_tests ps i) (individuals_tests ps is) new b.later in
      let first =
      class_read ps f i good.0 b.mid t.mid t.first
      (keeps_before b.mid t.mid new f (individuals_tests ps is) t.second keeps) in
      let rest = individuals_read ps f is t.mid new good.1 t.second keeps in
      let nodes_are : 0 + (expressions c + 0) ≡ expressions c = omega arith in
      one_said s new n (Member c a)
      (rises_as ps s new (1 + 0) (1 + 0) (0 + (expressions c + 0)) 1 1 (expressions c) refl refl nodes_are
      (rises_both ps s b.mid new 1 1 0 0 0 (expressions c + 0) b.rises
      (rises_both ps b.mid t.mid new 0 0 (expressions c) 0 0 0 first.rises rest.rises)))
      (and_from (listed c) (known_individual a) first.listed (and_parts (known_individual a) true rest.listed).0) refl
      first.whole (omega (arith, first.nested, deep))

  pair_said : (n : ℕ) (is : Items) → AreGoodItems is → (s new : Counts)
      → walked s (axiom_group_tests n (nat_eq (item_count is) 3) 1 (role_and_individual_tests ps is)) ≡ Ok new
      → Keeps new f → Said s new n (pair_made ps f is)
  pair_said n no_items good s new h keeps =
      let b = begins s new n (nat_eq 0 3) 1 [] h in let clash : false ≡ true = b.fits in absurd (cc clash)
  pair_said n (item i no_items) good s new h keeps =
      let b = begins s new n (nat_eq 1 3) 1 (role_and_individual_tests ps (item i no_items)) h in
      let clash : false ≡ true = b.fits in absurd (cc clash)
  pair_said n (item i (item j no_items)) good s new h keeps =
      let b = begins s new n (nat_eq 2 3) 1 (role_and_individual_tests ps (item i (item j no_items))) h in
      let clash : false ≡ true = b.fits in absurd (cc clash)
  pair_said n (item i (item j (item k (item l is)))) good s new h keeps =
      let b =
      begins s new n (nat_eq (item_count is + 1 + 1 + 1 + 1) 3) 1
      (role_and_individual_tests ps (item i (item j (item k (item l is))))) h in
      absurd (omega (arith, eq_true (item_count is + 1 + 1 + 1 + 1) 3 b.fits))
  pair_said n (item i (item j (item k no_items))) good s new h keeps =
      let is : Items = item j (item k no_items) in
      let r : ℕ = role_of ps f i in
      let a : ℕ = individual_of ps f j in
      let e : ℕ = individual_of ps f k in
      let b = begins s new n true 1 (role_tests ps i ++ individuals_tests ps is) h in
      let t = both b.mid (role_tests ps i) (individuals_tests ps is) new b.later in
      let first =
      role_read ps f i b.mid t.mid good.0 t.first
      (keeps_before b.mid t.mid new f (individuals_tests ps is) t.second keeps) in
      let rest = individuals_read ps f is t.mid new good.1 t.second keeps in
      let known = and_parts (known_individual a) (known_individual e && true) rest.listed in
      one_said s new n (Pair r a e)
      (rises_both ps s b.mid new 1 1 0 0 0 0 b.rises (rises_both ps b.mid t.mid new 0 0 0 0 0 0 first.rises rest.rises))
      (and_from (known_role r) (known_individual a && known_individual e) first.listed
      (and_from (known_individual a) (known_individual e) known.0 (and_parts (known_individual e) true known.1).0))
      refl refl (omega arith)

  count_individuals : (is : Items) → length (individuals_of ps f is) ≡ item_count is
  count_individuals no_items = refl
  count_individuals (item i is) = omega (arith, count_individuals is)

  same_said : (n : ℕ) (is : Items) → AreGoodItems is → (s new : Counts)
      → walked s (axiom_group_tests n (nat_le 2 (item_count is)) (item_count is - 1) (individuals_tests ps is)) ≡ Ok new
      → Keeps new f → Said s new n (SameAll (individuals_of ps f is) ∷ [])
  same_said n is good s new h keeps =
      let as_ : List ℕ = individuals_of ps f is in
      let b = begins s new n (nat_le 2 (item_count is)) (item_count is - 1) (individuals_tests ps is) h in
      let inner = individuals_read ps f is b.mid new good b.later keeps in
      let parts_are : item_count is - 1 + 0 ≡ length as_ - 1 = omega (arith, count_individuals is) in
      one_said s new n (SameAll as_)
      (rises_as ps s new (1 + 0) (item_count is - 1 + 0) (0 + 0) 1 (length as_ - 1) 0 refl parts_are refl
      (rises_both ps s b.mid new 1 (item_count is - 1) 0 0 0 0 b.rises inner.rises))
      inner.listed (ap (nat_le 2) (count_individuals is) ∙ b.fits) refl (omega arith)

  different_said : (n : ℕ) (is : Items) → AreGoodItems is → (s new : Counts)
      → walked s (axiom_group_tests n (nat_le 2 (item_count is)) (pair_count (item_count is)) (individuals_tests ps is))
      ≡ Ok new
      → Keeps new f
      → Said s new n (Different (individuals_of ps f is) ∷ [])
  different_said n is good s new h keeps =
      let as_ : List ℕ = individuals_of ps f is in
      let k : ℕ = pair_count (item_count is) in
      let b = begins s new n (nat_le 2 (item_count is)) k (individuals_tests ps is) h in
      let inner = individuals_read ps f is b.mid new good b.later keeps in
      let pairs : pair_count (length as_) ≡ k = ap pair_count (count_individuals is) in
      let parts_are : k + 0 ≡ pair_count (length as_) = omega (arith, pairs) in
      one_said s new n (Different as_)
      (rises_as ps s new (1 + 0) (k + 0) (0 + 0) 1 (pair_count (length as_)) 0 refl parts_are refl
      (rises_both ps s b.mid new 1 k 0 0 0 0 b.rises inner.rises))
      inner.listed (ap (nat_le 2) (count_individuals is) ∙ b.fits) refl (omega arith)

  -- ---- declarations

  abbrev EntityReads : List ℕ → Type 0
  EntityReads w = (n : ℕ) (is : Items) → AreGoodItems is → (s new : Counts)
      → walked s (entity_tests ps (group_item (Some w) is n)) ≡ Ok new → Keeps new f → Rises ps s new 0 0 0

  rests : (s new : Counts) → walked s [] ≡ Ok new → Rises ps s new 0 0 0
  rests s new h = subst (λ t. Rises ps s t 0 0 0) (nothing_held s new h) (rises_not ps s)

  class_entity_tests : (n : ℕ) (is : Items)
      → entity_tests ps (group_item (Some (codes "Class")) is n)
      ≡ shape n (nat_eq (item_count is) 1) ∷ declared_classes_tests ps is
  unfolding entity_keyword
  class_entity_tests n is = refl

  classes_declared : (is : Items) → AreGoodItems is → (s new : Counts)
      → walked s (declared_classes_tests ps is) ≡ Ok new → Keeps new f → Rises ps s new 0 0 0
  classes_declared no_items good s new h keeps = rests s new h
  classes_declared (item i is) good s new h keeps =
      let w : List ℕ = iri_of ps i in
      (listed_by ps f w (item_line i) s new (λ prefixes. iri_good ps i prefixes good.0) (is_thing w) (is_nothing w) refl
      refl (names_pass ps f i s new (listed_class (item_line i) w) h) keeps).0

  class_entity : EntityReads (codes "Class")
  class_entity n is good s new h keeps =
      let form =
      held s (shape n (nat_eq (item_count is) 1)) (declared_classes_tests ps is) new
      (ap (walked s) (sym (class_entity_tests n is)) ∙ h) in
      classes_declared is good s new form.later keeps

  role_entity_tests : (n : ℕ) (is : Items)
      → entity_tests ps (group_item (Some (codes "ObjectProperty")) is n)
      ≡ shape n (nat_eq (item_count is) 1) ∷ declared_roles_tests ps is
  unfolding entity_keyword
  role_entity_tests n is = refl

  roles_declared : (is : Items) → AreGoodItems is → (s new : Counts) → walked s (declared_roles_tests ps is) ≡ Ok new
      → Keeps new f → Rises ps s new 0 0 0
  roles_declared no_items good s new h keeps = rests s new h
  roles_declared (item i is) good s new h keeps =
      let w : List ℕ = iri_of ps i in
      declared_role_by ps f w (item_line i) s new (λ prefixes. iri_good ps i prefixes good.0) (excluded_role_name w)
      refl (names_pass ps f i s new (unless_excluded (excluded_role_name w) (item_line i) w) h) keeps

  role_entity : EntityReads (codes "ObjectProperty")
  role_entity n is good s new h keeps =
      let form =
      held s (shape n (nat_eq (item_count is) 1)) (declared_roles_tests ps is) new
      (ap (walked s) (sym (role_entity_tests n is)) ∙ h) in
      roles_declared is good s new form.later keeps

  data_role_entity_tests : (n : ℕ) (is : Items)
      → entity_tests ps (group_item (Some (codes "DataProperty")) is n) ≡ shape n (nat_eq (item_count is) 1) ∷ []
  unfolding entity_keyword
  data_role_entity_tests n is = refl

  data_role_entity : EntityReads (codes "DataProperty")
  data_role_entity n is good s new h keeps =
      rests s new
      (held s (shape n (nat_eq (item_count is) 1)) [] new (ap (walked s) (sym (data_role_entity_tests n is)) ∙ h)).later

  annotation_entity_tests : (n : ℕ) (is : Items)
      → entity_tests ps (group_item (Some (codes "AnnotationProperty")) is n) ≡ shape n (nat_eq (item_count is) 1) ∷ []
  unfolding entity_keyword
  annotation_entity_tests n is = refl

  annotation_entity : EntityReads (codes "AnnotationProperty")
  annotation_entity n is good s new h keeps =
      rests s new
      (held s (shape n (nat_eq (item_count is) 1)) [] new
      (ap (walked s) (sym (annotation_entity_tests n is)) ∙ h)).later

  datatype_entity_tests : (n : ℕ) (is : Items)
      → entity_tests ps (group_item (Some (codes "Datatype")) is n) ≡ shape n (nat_eq (item_count is) 1) ∷ []
  unfolding entity_keyword
  datatype_entity_tests n is = refl

  datatype_entity : EntityReads (codes "Datatype")
  datatype_entity n is good s new h keeps =
      rests s new
      (held s (shape n (nat_eq (item_count is) 1)) [] new (ap (walked s) (sym (datatype_entity_tests n is)) ∙ h)).later

  individual_entity_tests : (n : ℕ) (is : Items)
      → entity_tests ps (group_item (Some (codes "NamedIndividual")) is n)
      ≡ shape n (nat_eq (item_count is) 1) ∷ declared_individuals_tests ps is
  unfolding entity_keyword
  individual_entity_tests n is = refl

  individuals_declared : (is : Items) → AreGoodItems is → (s new : Counts)
      → walked s (declared_individuals_tests ps is) ≡ Ok new → Keeps new f → Rises ps s new 0 0 0
  individuals_declared no_items good s new h keeps = rests s new h
  individuals_declared (item i is) good s new h keeps = (individual_read ps f i s new good.0 h keeps).rises

  individual_entity : EntityReads (codes "NamedIndividual")
  individual_entity n is good s new h keeps =
      let form =
      held s (shape n (nat_eq (item_count is) 1)) (declared_individuals_tests ps is) new
      (ap (walked s) (sym (individual_entity_tests n is)) ∙ h) in
      individuals_declared is good s new form.later keeps

  other_entity : (w : List ℕ) → NoEntity w → EntityReads w
  other_entity w none n is good s new h keeps = absurd (none ps n is s new h)

  entity_read : (i : Item) → IsGoodItem i → (s new : Counts) → walked s (entity_tests ps i) ≡ Ok new → Keeps new f
      → Rises ps s new 0 0 0
  entity_read (group_item (Some w) is n) good s new h keeps =
      entity_words EntityReads class_entity role_entity individual_entity data_role_entity annotation_entity
      datatype_entity other_entity w n is good s new h keeps
  entity_read (group_item None is n) good s new h keeps = absurd (never s new (shape n false) [] refl h)
  entity_read (name_item w n) good s new h keeps = absurd (never s new (shape n false) [] refl h)
  entity_read (iri_item w n) good s new h keeps = absurd (never s new (shape n false) [] refl h)
  entity_read (literal_item n) good s new h keeps = absurd (never s new (shape n false) [] refl h)
  entity_read (sign_item k n) good s new h keeps = absurd (never s new (shape n false) [] refl h)

  first_entity_read : (is : Items) → AreGoodItems is → (s new : Counts) → walked s (first_entity_tests ps is) ≡ Ok new
      → Keeps new f → Rises ps s new 0 0 0
  first_entity_read no_items good s new h keeps = rests s new h
  first_entity_read (item i is) good s new h keeps = entity_read i good.0 s new h keeps

  -- ---- axioms

  abbrev AxiomReads : List ℕ → Type 0
  AxiomReads w = (n : ℕ) (all : Items) → AreGoodItems all → nesting_all all ≤ deepest → (s new : Counts)
      → walked s (axiom_tests ps (group_item (Some w) all n)) ≡ Ok new → Keeps new f
      → AreSaid s new (axiom_in ps f (group_item (Some w) all n))

  deep_as : (all : Items) → nesting_all all ≤ deepest → nesting_all (without_annotations all) ≤ deepest
  deep_as all deep = omega (arith, plain_nests all, deep)

  read_sub_class : AxiomReads (codes "SubClassOf")
  read_sub_class n all good deep s new h keeps =
      said_as s new (numbered_at n (sub_class_made ps f (without_annotations all)))
      (axiom_in ps f (group_item (Some (codes "SubClassOf")) all n))
      (keywords.sub_class_value ps n all (without_annotations all) refl f)
      (sub_class_said n (without_annotations all) (plain_good all good) (deep_as all deep) s new
      (ap (walked s) (sym (keywords.sub_class_tests ps n all (without_annotations all) refl)) ∙ h) keeps)

  read_equivalent : AxiomReads (codes "EquivalentClasses")
  read_equivalent n all good deep s new h keeps =
      said_as s new (numbered_at n (EquivalentClasses (part_list (concepts_of ps f (without_annotations all))) ∷ []))
      (axiom_in ps f (group_item (Some (codes "EquivalentClasses")) all n))
      (keywords.equivalent_value ps n all (without_annotations all) refl f)
      (many_said EquivalentClasses (λ cs. refl) (λ cs. refl) (λ cs. refl) (λ cs. refl) (λ cs. refl) (λ k. k)
      (λ cs. refl) n (without_annotations all) (plain_good all good) (deep_as all deep) s new
      (ap (walked s) (sym (keywords.equivalent_tests ps n all (without_annotations all) refl)) ∙ h) keeps)

  read_disjoint : AxiomReads (codes "DisjointClasses")
  read_disjoint n all good deep s new h keeps =
      said_as s new (numbered_at n (DisjointClasses (part_list (concepts_of ps f (without_annotations all))) ∷ []))
      (axiom_in ps f (group_item (Some (codes "DisjointClasses")) all n))
      (keywords.disjoint_value ps n all (without_annotations all) refl f)
      (many_said DisjointClasses (λ cs. refl) (λ cs. refl) (λ cs. refl) (λ cs. refl) (λ cs. refl) pair_count
      (λ cs. refl) n (without_annotations all) (plain_good all good) (deep_as all deep) s new
      (ap (walked s) (sym (keywords.disjoint_tests ps n all (without_annotations all) refl)) ∙ h) keeps)

  read_disjoint_union : AxiomReads (codes "DisjointUnion")
  read_disjoint_union n all good deep s new h keeps =
      said_as s new (numbered_at n (union_made ps f (without_annotations all)))
      (axiom_in ps f (group_item (Some (codes "DisjointUnion")) all n))
      (keywords.disjoint_union_value ps n all (without_annotations all) refl f)
      (union_said n (without_annotations all) (plain_good all good) (deep_as all deep) s new
      (ap (walked s) (sym (keywords.disjoint_union_tests ps n all (without_annotations all) refl)) ∙ h) keeps)

  read_sub_role : AxiomReads (codes "SubObjectPropertyOf")
  read_sub_role n all good deep s new h keeps =
      said_as s new (numbered_at n (sub_role_made ps f (without_annotations all)))
      (axiom_in ps f (group_item (Some (codes "SubObjectPropertyOf")) all n))
      (keywords.sub_role_value ps n all (without_annotations all) refl f)
      (sub_role_said n (without_annotations all) (plain_good all good) s new
      (ap (walked s) (sym (keywords.sub_role_tests ps n all (without_annotations all) refl)) ∙ h) keeps)

  read_equivalent_roles : AxiomReads (codes "EquivalentObjectProperties")
  read_equivalent_roles n all good deep s new h keeps =
      said_as s new (numbered_at n (EquivalentRoles (roles_of ps f (without_annotations all)) ∷ []))
      (axiom_in ps f (group_item (Some (codes "EquivalentObjectProperties")) all n))
      (keywords.equivalent_roles_value ps n all (without_annotations all) refl f)
      (equal_roles_said n (without_annotations all) (plain_good all good) s new
      (ap (walked s) (sym (keywords.equivalent_roles_tests ps n all (without_annotations all) refl)) ∙ h) keeps)

  read_domain : AxiomReads (codes "ObjectPropertyDomain")
  read_domain n all good deep s new h keeps =
      said_as s new (numbered_at n (domain_made ps f (without_annotations all)))
      (axiom_in ps f (group_item (Some (codes "ObjectPropertyDomain")) all n))
      (keywords.domain_value ps n all (without_annotations all) refl f)
      (domain_said n (without_annotations all) (plain_good all good) (deep_as all deep) s new
      (ap (walked s) (sym (keywords.domain_tests ps n all (without_annotations all) refl)) ∙ h) keeps)

  read_range : AxiomReads (codes "ObjectPropertyRange")
  read_range n all good deep s new h keeps =
      said_as s new (numbered_at n (range_made ps f (without_annotations all)))
      (axiom_in ps f (group_item (Some (codes "ObjectPropertyRange")) all n))
      (keywords.range_value ps n all (without_annotations all) refl f)
      (range_said n (without_annotations all) (plain_good all good) (deep_as all deep) s new
      (ap (walked s) (sym (keywords.range_tests ps n all (without_annotations all) refl)) ∙ h) keeps)

  read_functional : AxiomReads (codes "FunctionalObjectProperty")
  read_functional n all good deep s new h keeps =
      said_as s new (numbered_at n (functional_made ps f (without_annotations all)))
      (axiom_in ps f (group_item (Some (codes "FunctionalObjectProperty")) all n))
      (keywords.functional_value ps n all (without_annotations all) refl f)
      (functional_said n (without_annotations all) (plain_good all good) s new
      (ap (walked s) (sym (keywords.functional_tests ps n all (without_annotations all) refl)) ∙ h) keeps)

  read_transitive : AxiomReads (codes "TransitiveObjectProperty")
  read_transitive n all good deep s new h keeps =
      said_as s new (numbered_at n (transitive_made ps f (without_annotations all)))
      (axiom_in ps f (group_item (Some (codes "TransitiveObjectProperty")) all n))
      (keywords.transitive_value ps n all (without_annotations all) refl f)
      (transitive_said n (without_annotations all) (plain_good all good) s new
      (ap (walked s) (sym (keywords.transitive_tests ps n all (without_annotations all) refl)) ∙ h) keeps)

  read_member : AxiomReads (codes "ClassAssertion")
  read_member n all good deep s new h keeps =
      said_as s new (numbered_at n (member_made ps f (without_annotations all)))
      (axiom_in ps f (group_item (Some (codes "ClassAssertion")) all n))
      (keywords.member_value ps n all (without_annotations all) refl f)
      (member_said n (without_annotations all) (plain_good all good) (deep_as all deep) s new
      (ap (walked s) (sym (keywords.member_tests ps n all (without_annotations all) refl)) ∙ h) keeps)

  read_pair : AxiomReads (codes "ObjectPropertyAssertion")
  read_pair n all good deep s new h keeps =
      said_as s new (numbered_at n (pair_made ps f (without_annotations all)))
      (axiom_in ps f (group_item (Some (codes "ObjectPropertyAssertion")) all n))
      (keywords.pair_value ps n all (without_annotations all) refl f)
      (pair_said n (without_annotations all) (plain_good all good) s new
      (ap (walked s) (sym (keywords.pair_tests ps n all (without_annotations all) refl)) ∙ h) keeps)

  read_same : AxiomReads (codes "SameIndividual")
  read_same n all good deep s new h keeps =
      said_as s new (numbered_at n (SameAll (individuals_of ps f (without_annotations all)) ∷ []))
      (axiom_in ps f (group_item (Some (codes "SameIndividual")) all n))
      (keywords.same_value ps n all (without_annotations all) refl f)
      (same_said n (without_annotations all) (plain_good all good) s new
      (ap (walked s) (sym (keywords.same_tests ps n all (without_annotations all) refl)) ∙ h) keeps)

  read_different : AxiomReads (codes "DifferentIndividuals")
  read_different n all good deep s new h keeps =
      said_as s new (numbered_at n (Different (individuals_of ps f (without_annotations all)) ∷ []))
      (axiom_in ps f (group_item (Some (codes "DifferentIndividuals")) all n))
      (keywords.different_value ps n all (without_annotations all) refl f)
      (different_said n (without_annotations all) (plain_good all good) s new
      (ap (walked s) (sym (keywords.different_tests ps n all (without_annotations all) refl)) ∙ h) keeps)

  declaration_is : (n : ℕ) (all : Items)
      → axiom_tests ps (group_item (Some (codes "Declaration")) all n)
      ≡ declaration_tests ps n (without_annotations all)
  unfolding axiom_keyword
  declaration_is n all = refl

  declaration_says : (n : ℕ) (all : Items) → axiom_in ps f (group_item (Some (codes "Declaration")) all n) ≡ []
  unfolding axiom_keyword
  declaration_says n all = refl

  read_declaration : AxiomReads (codes "Declaration")
  read_declaration n all good deep s new h keeps =
      let is : Items = without_annotations all in
      let form =
      held s (shape n (nat_eq (item_count is) 1)) (first_entity_tests ps is) new
      (ap (walked s) (sym (declaration_is n all)) ∙ h) in
      said_as s new [] (axiom_in ps f (group_item (Some (codes "Declaration")) all n)) (declaration_says n all)
      (none_said s new (first_entity_read is (plain_good all good) s new form.later keeps))

  annotation_is : (n : ℕ) (all : Items) → axiom_tests ps (group_item (Some (codes "Annotation")) all n) ≡ []
  unfolding axiom_keyword
  annotation_is n all = refl

  annotation_says : (n : ℕ) (all : Items) → axiom_in ps f (group_item (Some (codes "Annotation")) all n) ≡ []
  unfolding axiom_keyword
  annotation_says n all = refl

  read_annotation : AxiomReads (codes "Annotation")
  read_annotation n all good deep s new h keeps =
      said_as s new [] (axiom_in ps f (group_item (Some (codes "Annotation")) all n)) (annotation_says n all)
      (none_said s new (rests s new (ap (walked s) (sym (annotation_is n all)) ∙ h)))

  assertion_is : (n : ℕ) (all : Items) → axiom_tests ps (group_item (Some (codes "AnnotationAssertion")) all n) ≡ []
  unfolding axiom_keyword
  assertion_is n all = refl

  assertion_says : (n : ℕ) (all : Items) → axiom_in ps f (group_item (Some (codes "AnnotationAssertion")) all n) ≡ []
  unfolding axiom_keyword
  assertion_says n all = refl

  read_assertion : AxiomReads (codes "AnnotationAssertion")
  read_assertion n all good deep s new h keeps =
      said_as s new [] (axiom_in ps f (group_item (Some (codes "AnnotationAssertion")) all n)) (assertion_says n all)
      (none_said s new (rests s new (ap (walked s) (sym (assertion_is n all)) ∙ h)))

  sub_annotation_is : (n : ℕ) (all : Items)
      → axiom_tests ps (group_item (Some (codes "SubAnnotationPropertyOf")) all n) ≡ []
  unfolding axiom_keyword
  sub_annotation_is n all = refl

  sub_annotation_says : (n : ℕ) (all : Items)
      → axiom_in ps f (group_item (Some (codes "SubAnnotationPropertyOf")) all n) ≡ []
  unfolding axiom_keyword
  sub_annotation_says n all = refl

  read_sub_annotation : AxiomReads (codes "SubAnnotationPropertyOf")
  read_sub_annotation n all good deep s new h keeps =
      said_as s new [] (axiom_in ps f (group_item (Some (codes "SubAnnotationPropertyOf")) all n))
      (sub_annotation_says n all) (none_said s new (rests s new (ap (walked s) (sym (sub_annotation_is n all)) ∙ h)))

  annotation_domain_is : (n : ℕ) (all : Items)
      → axiom_tests ps (group_item (Some (codes "AnnotationPropertyDomain")) all n) ≡ []
  unfolding axiom_keyword
  annotation_domain_is n all = refl

  annotation_domain_says : (n : ℕ) (all : Items)
      → axiom_in ps f (group_item (Some (codes "AnnotationPropertyDomain")) all n) ≡ []
  unfolding axiom_keyword
  annotation_domain_says n all = refl

  read_annotation_domain : AxiomReads (codes "AnnotationPropertyDomain")
  read_annotation_domain n all good deep s new h keeps =
      said_as s new [] (axiom_in ps f (group_item (Some (codes "AnnotationPropertyDomain")) all n))
      (annotation_domain_says n all)
      (none_said s new (rests s new (ap (walked s) (sym (annotation_domain_is n all)) ∙ h)))

  annotation_range_is : (n : ℕ) (all : Items)
      → axiom_tests ps (group_item (Some (codes "AnnotationPropertyRange")) all n) ≡ []
  unfolding axiom_keyword
  annotation_range_is n all = refl

  annotation_range_says : (n : ℕ) (all : Items)
      → axiom_in ps f (group_item (Some (codes "AnnotationPropertyRange")) all n) ≡ []
  unfolding axiom_keyword
  annotation_range_says n all = refl

  read_annotation_range : AxiomReads (codes "AnnotationPropertyRange")
  read_annotation_range n all good deep s new h keeps =
      said_as s new [] (axiom_in ps f (group_item (Some (codes "AnnotationPropertyRange")) all n))
      (annotation_range_says n all)
      (none_said s new (rests s new (ap (walked s) (sym (annotation_range_is n all)) ∙ h)))

  read_other : (w : List ℕ) → NoAxiom w → AxiomReads w
  read_other w none n all good deep s new h keeps = absurd (none ps n all s new h)

  pub axiom_read : (i : Item) → IsGoodItem i → nesting i ≤ deepest + 1 → (s new : Counts)
      → walked s (axiom_tests ps i) ≡ Ok new → Keeps new f → AreSaid s new (axiom_in ps f i)
  axiom_read (group_item (Some w) is n) good deep s new h keeps =
      axiom_words AxiomReads read_sub_class read_equivalent read_disjoint read_disjoint_union read_sub_role
      read_equivalent_roles read_domain read_range read_functional read_transitive read_member read_pair read_same
      read_different read_declaration read_annotation read_assertion read_sub_annotation read_annotation_domain
      read_annotation_range read_other w n is good (omega (arith, deep)) s new h keeps
  axiom_read (group_item None is n) good deep s new h keeps = absurd (never s new (shape n false) [] refl h)
  axiom_read (name_item w n) good deep s new h keeps = absurd (never s new (shape n false) [] refl h)
  axiom_read (iri_item w n) good deep s new h keeps = absurd (never s new (shape n false) [] refl h)
  axiom_read (literal_item n) good deep s new h keeps = absurd (never s new (shape n false) [] refl h)
  axiom_read (sign_item k n) good deep s new h keeps = absurd (never s new (shape n false) [] refl h)

  pub axioms_read : (is : Items) → AreGoodItems is → nesting_all is ≤ deepest + 1 → (s new : Counts)
      → walked s (axioms_tests ps is) ≡ Ok new → Keeps new f → AreSaid s new (axioms_in ps f is)
  axioms_read no_items good deep s new h keeps = none_said s new (rests s new h)
  axioms_read (item i is) good deep s new h keeps =
      let b = both s (axiom_tests ps i) (axioms_tests ps is) new h in
      both_said s b.mid new (axiom_in ps f i) (axioms_in ps f is)
      (axiom_read i good.0 (omega (arith, deep)) s b.mid b.first
      (keeps_before s b.mid new f (axioms_tests ps is) b.second keeps))
      (axioms_read is good.1 (omega (arith, deep)) b.mid new b.second keeps)
