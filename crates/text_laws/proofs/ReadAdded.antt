-- Axioms that are put into an ontology are read from their texts.
use Rattle.std.proofs.Common.{◌≡◌, ℕ, ◌+◌, ◌≤◌, ◌^◌, Bool, true, ◌&&◌, List, [], ◌∷◌, ◌++◌, length, Ok, refl, ap, sym}
use Rattle.std.proofs.Common.{◌∙◌, subst, arith, length-append}
use Rattle.std.specs.Prelude.{min}
use Rattle.std.specs.List.{list_all}
use Rattle.std.proofs.lemmas.Bool.{and_parts, and_from}
use Rattle.std.proofs.lemmas.List.Folds.{list_all-append}
use Rattle.shq_terms.specs.Listed.{Listed, with_axiom}
use Rattle.shq_terms.specs.Uses.{axiom_uses_listed, all_use_listed}
use Rattle.shq_terms.specs.declared.axioms.Axiom.{Axiom}
use Rattle.shq_terms.specs.declared.axioms.Axiom.TheVariants.{SubClassOf, EquivalentClasses, DisjointClasses}
use Rattle.shq_terms.specs.declared.axioms.Axiom.TheVariants.{DisjointUnion, SubRole, EquivalentRoles, Domain, Range}
use Rattle.shq_terms.specs.declared.axioms.Axiom.TheVariants.{Functional, Transitive, Member, Pair, SameAll, Different}
use Rattle.shq_terms.specs.declared.axioms.Numbered.{Numbered}
use Rattle.ontology_limits.specs.Parts.{axiom_has_counts_within}
use Rattle.ontology_limits.specs.Limits.{has_enough_items, IsOntologyInLimit}
use Rattle.ofn_tree.specs.Lexemes.{end_line}
use Rattle.ofn_tree.specs.Items.{Item}
use Rattle.ofn_expressions.specs.Counts.{Counts}
use Rattle.ofn_expressions.specs.Walk.{Test, simple, after_all, walked}
use Rattle.ofn_expressions.specs.Names.{Prefix}
use Rattle.ofn_expressions.proofs.Walks.{goes_on}
use Rattle.ofn_reader.specs.Keywords.{axiom_keyword}
use Rattle.ofn_reader.specs.Axioms.{axiom_tests, axiom_in, numbered_at}
use Rattle.ofn_reader.specs.Held.{axiom_expressions, expression_count, parts_held, counts_of}
use Rattle.ofn_reader.specs.Queries.{first_line}
use Rattle.ofn_reader.specs.Additions.{added_tests, added_form_tests, added_axiom, first_axiom, all_count_simple}
use Rattle.ofn_reader.specs.Additions.{with_added, all_simple_test, addition_tests, IsAddition}
use Rattle.text_laws.specs.Writable.{axiom_brackets, is_readable, CanBeWritten}
use Rattle.text_laws.specs.WritingLaws.{KnowsOwl, AxiomTextsAreRead}
use Rattle.text_laws.proofs.Whole.{has_item_count, has_whole_items, is_whole_axiom, axiom_whole_is, counted_parts}
use Rattle.text_laws.proofs.Whole.{held_total, expression_total}
use Rattle.text_laws.proofs.Phrases.{text_of, item_of}
use Rattle.text_laws.proofs.Terms.{axiom_phrase, axiom_written, axiom_nests, axiom_stands}
use Rattle.text_laws.proofs.Walks.{step, alone, counted}
use Rattle.text_laws.proofs.Axioms.{axiom_walk, axiom_value}
use Rattle.text_laws.proofs.Additions.{parts_more, expressions_more, parts_are}
use Rattle.text_laws.proofs.Counting.{walked_after}
use Rattle.text_laws.proofs.Alone.{IsAlone, phrase_items}
use Rattle.text_laws.proofs.Read.{spelled, known}

-- ---- an axiom by its keyword

pub axiom_alone : (o : Listed) (a : Axiom) → IsAlone (axiom_phrase o a)
axiom_alone o (SubClassOf c d) = record { no_mark = refl; no_document = refl }
axiom_alone o (EquivalentClasses cs) = record { no_mark = refl; no_document = refl }
axiom_alone o (DisjointClasses cs) = record { no_mark = refl; no_document = refl }
axiom_alone o (DisjointUnion c cs) = record { no_mark = refl; no_document = refl }
axiom_alone o (SubRole r s) = record { no_mark = refl; no_document = refl }
axiom_alone o (EquivalentRoles rs) = record { no_mark = refl; no_document = refl }
axiom_alone o (Domain r c) = record { no_mark = refl; no_document = refl }
axiom_alone o (Range r c) = record { no_mark = refl; no_document = refl }
axiom_alone o (Functional r) = record { no_mark = refl; no_document = refl }
axiom_alone o (Transitive r) = record { no_mark = refl; no_document = refl }
axiom_alone o (Member c a) = record { no_mark = refl; no_document = refl }
axiom_alone o (Pair r a b) = record { no_mark = refl; no_document = refl }
axiom_alone o (SameAll as_) = record { no_mark = refl; no_document = refl }
axiom_alone o (Different as_) = record { no_mark = refl; no_document = refl }

module _ (ps : List Prefix) (o : Listed) where
  abbrev phrase_item : Axiom → Item
  phrase_item a = item_of 1 (axiom_phrase o a)

  -- it has the tests that it has in a document
  same_tests : (a : Axiom) → added_tests ps (phrase_item a) ≡ axiom_tests ps (phrase_item a)
  unfolding axiom_keyword
  same_tests (SubClassOf c d) = refl
  same_tests (EquivalentClasses cs) = refl
  same_tests (DisjointClasses cs) = refl
  same_tests (DisjointUnion c cs) = refl
  same_tests (SubRole r s) = refl
  same_tests (EquivalentRoles rs) = refl
  same_tests (Domain r c) = refl
  same_tests (Range r c) = refl
  same_tests (Functional r) = refl
  same_tests (Transitive r) = refl
  same_tests (Member c a) = refl
  same_tests (Pair r a b) = refl
  same_tests (SameAll as_) = refl
  same_tests (Different as_) = refl

  -- and says what it says there
  same_axiom : (s : Counts) (a : Axiom)
      → axiom_in ps s (phrase_item a) ≡ numbered_at 1 (added_axiom ps s (phrase_item a))
  unfolding axiom_keyword
  same_axiom s (SubClassOf c d) = refl
  same_axiom s (EquivalentClasses cs) = refl
  same_axiom s (DisjointClasses cs) = refl
  same_axiom s (DisjointUnion c cs) = refl
  same_axiom s (SubRole r t) = refl
  same_axiom s (EquivalentRoles rs) = refl
  same_axiom s (Domain r c) = refl
  same_axiom s (Range r c) = refl
  same_axiom s (Functional r) = refl
  same_axiom s (Transitive r) = refl
  same_axiom s (Member c a) = refl
  same_axiom s (Pair r a b) = refl
  same_axiom s (SameAll as_) = refl
  same_axiom s (Different as_) = refl

abbrev unnumbered : List Numbered → List Axiom
unnumbered [] = []
unnumbered (n ∷ more) = n.axiom ∷ unnumbered more

without_numbers : (line : ℕ) (as_ : List Axiom) → unnumbered (numbered_at line as_) ≡ as_
without_numbers line [] = refl
without_numbers line (a ∷ more) = ap (λ l. a ∷ l) (without_numbers line more)

-- ---- the last of the axioms

last_passes : (p : Numbered → Bool) (xs : List Numbered) (x : Numbered) → list_all p (xs ++ x ∷ []) ≡ true
    → p x ≡ true
last_passes p xs x h =
    let both =
    and_parts (list_all p xs) (list_all p (x ∷ [])) (sym (list_all-append p xs (x ∷ [])) ∙ h) in
    (and_parts (p x) true both.1).0

last_listed : (classes roles individuals : ℕ) (xs : List Numbered) (x : Numbered)
    → all_use_listed classes roles individuals (xs ++ x ∷ []) ≡ true
    → axiom_uses_listed classes roles individuals x.axiom ≡ true
last_listed classes roles individuals [] x h =
    (and_parts (axiom_uses_listed classes roles individuals x.axiom) true h).0
last_listed classes roles individuals (y ∷ ys) x h =
    last_listed classes roles individuals ys x
    (and_parts (axiom_uses_listed classes roles individuals y.axiom)
    (all_use_listed classes roles individuals (ys ++ x ∷ [])) h).1

-- ---- the law

module _ (o : Listed) (a : Axiom) (ps : List Prefix) (can : CanBeWritten o)
    (within : IsOntologyInLimit (with_axiom o a 1)) (knows : KnowsOwl ps) (readable : is_readable a ≡ true)
    (few : expression_count o.axioms + axiom_expressions a ≤ 262144) where
  abbrev new : List Numbered
  new = numbered_at 1 (a ∷ [])

  abbrev numbered_one : Numbered
  numbered_one = record { «axiom» = a; line = 1 }

  abbrev this_item : Item
  this_item = item_of 1 (axiom_phrase o a)

  listed : axiom_uses_listed (length o.classes) (length o.roles) (length o.individuals) a ≡ true
  listed = last_listed (length o.classes) (length o.roles) (length o.individuals) o.axioms numbered_one within.listed

  is_whole : is_whole_axiom a ≡ true
  is_whole =
      let items : has_enough_items a ≡ true =
      last_passes (λ (n : Numbered). has_enough_items n.axiom) o.axioms numbered_one within.items in
      let counts : axiom_has_counts_within 100 a ≡ true =
      last_passes (λ (n : Numbered). axiom_has_counts_within 100 n.axiom) o.axioms numbered_one within.counts in
      axiom_whole_is a
      ∙ and_from (is_readable a) (has_enough_items a && axiom_has_counts_within 100 a) readable
      (and_from (has_enough_items a) (axiom_has_counts_within 100 a) items counts)

  -- ---- counts

  abbrev parts_before : ℕ
  parts_before = min (parts_held o.axioms) 500000

  abbrev nodes_before : ℕ
  nodes_before = min (expression_count o.axioms) 262144

  number : length o.axioms + 1 ≡ length (o.axioms ++ new)
  number = omega (arith, length-append o.axioms new)

  few_axioms : length o.axioms + 1 ≤ 20000
  few_axioms = omega (arith, number, within.few_axioms)

  parts_with : parts_held (o.axioms ++ new) ≡ parts_held o.axioms + counted_parts a
  parts_with = omega (arith, parts_more o.axioms new, held_total new)

  parts_fit : parts_held (o.axioms ++ new) ≤ 500000
  parts_fit = omega (arith, parts_are (o.axioms ++ new), within.few_parts)

  few_parts : parts_before + counted_parts a ≤ 500000
  few_parts = omega (arith, parts_with, parts_fit)

  nodes_with : expression_count (o.axioms ++ new) ≡ expression_count o.axioms + axiom_expressions a
  nodes_with = omega (arith, expressions_more o.axioms new, expression_total new)

  few_nodes : nodes_before + axiom_expressions a ≤ 262144
  few_nodes = omega (arith, few)

  abbrev behind : Counts
  behind = counts_of (with_axiom o a 1)

  behind_is :
      counted o (length o.axioms + 1) (parts_before + counted_parts a) (nodes_before + axiom_expressions a) ≡ behind
  behind_is =
      let parts_now : parts_before + counted_parts a ≡ min (parts_held (o.axioms ++ new)) 500000 =
      omega (arith, parts_with, parts_fit) in
      let nodes_now : nodes_before + axiom_expressions a ≡ min (expression_count (o.axioms ++ new)) 262144 =
      omega (arith, nodes_with, few) in
      λ i. record {
        axioms = number i;
        parts = parts_now i;
        nodes = nodes_now i;
        classes = o.classes;
        roles = o.roles;
        individuals = o.individuals;
      }

  -- ---- tests

  walks : walked (counts_of o) (added_tests ps this_item) ≡ Ok behind
  walks =
      ap (walked (counts_of o)) (same_tests ps o a)
      ∙ axiom_walk ps knows o (known o can) (length o.axioms) parts_before nodes_before 1 a listed is_whole few_axioms
      few_parts few_nodes
      ∙ ap (λ (s : Counts). Ok s) behind_is

  value : added_axiom ps behind this_item ≡ a ∷ []
  value =
      sym (without_numbers 1 (added_axiom ps behind this_item))
      ∙ ap unnumbered
      (sym (same_axiom ps o behind a)
      ∙ axiom_value ps knows o (known o can) (length (o.axioms ++ new)) (min (parts_held (o.axioms ++ new)) 500000)
      (min (expression_count (o.axioms ++ new)) 262144) 1 a listed is_whole)

  holds : (last : ℕ)
      → walked (counts_of o) (addition_tests ps o.axioms (counts_of o) last (this_item ∷ [])) ≡ Ok behind
  holds last =
      let s : Counts = counts_of o in
      let form : List Test = added_form_tests ps last (this_item ∷ []) in
      let form_holds : walked s form ≡ Ok behind = alone s behind (added_tests ps this_item) walks in
      let said : List Axiom = first_axiom ps (after_all s form) (this_item ∷ []) in
      let says : first_axiom ps (after_all s form) (this_item ∷ []) ≡ a ∷ [] =
      ap (λ (t : Counts). first_axiom ps t (this_item ∷ [])) (walked_after s form behind form_holds) ∙ value in
      goes_on s behind form (all_simple_test o.axioms (first_line last (this_item ∷ [])) said) form_holds
      ∙ step behind
      (simple (first_line last (this_item ∷ [])) (all_count_simple (with_added o.axioms said))) []
      (ap (λ (l : List Axiom). all_count_simple (with_added o.axioms l)) says ∙ within.simple)

  is_read : length (text_of (axiom_phrase o a)) ≤ 2 ^ 24 → axiom_brackets a ≤ 64
      → IsAddition ps o.axioms (counts_of o) (text_of (axiom_phrase o a)) behind a
  is_read short deep =
      let items : has_whole_items a ≡ true = (and_parts (has_item_count a) (has_whole_items a) is_whole).1 in
      record {
        short = short;
        items = this_item ∷ [];
        end = length (text_of (axiom_phrase o a));
        made =
            phrase_items (axiom_phrase o a) (axiom_stands o (spelled o can) a listed items) (axiom_alone o a)
            (omega (arith, axiom_nests o 1 a items, deep));
        holds = holds (end_line (text_of (axiom_phrase o a)));
        says = value;
      }

pub axiom_texts_read : AxiomTextsAreRead
axiom_texts_read o a ps can within knows readable short deep few =
    let written = axiom_written o a in
    subst (λ (t : List ℕ). IsAddition ps o.axioms (counts_of o) t (counts_of (with_axiom o a 1)) a) written
    (is_read o a ps can within knows readable few
    (subst (λ (t : List ℕ). length t ≤ 2 ^ 24) (sym written) short) deep)
