-- The text of a workload is a document of its axioms.
use Rattle.std.proofs.Common.{◌≡◌, ℕ, zero, suc, ◌+◌, ◌*◌, ◌≤◌, true, false, ◌||◌, List, [], ◌∷◌, ◌++◌, length, drop}
use Rattle.std.proofs.Common.{Some, Ok, refl, ap, sym, ◌∙◌, subst, arith, length-append, codes}
use Rattle.std.proofs.lemmas.List.{length-map}
use Rattle.std.specs.List.{list_all, list_any}
use Rattle.std.proofs.lemmas.Bool.{and_from}
use Rattle.std.proofs.lemmas.List.Folds.{list_any-append}
use Rattle.shq_terms.specs.declared.axioms.Axiom.{Axiom}
use Rattle.shq_terms.specs.declared.axioms.Numbered.{Numbered}
use Rattle.role_box.specs.declared.role_axiom.RoleAxiom.{RoleAxiom}
use Rattle.role_box.specs.Counted.{counted_by}
use Rattle.role_box.specs.Simple.{is_simple, are_simple, counts_simple, all_role_axioms, is_transitivity}
use Rattle.role_box.proofs.Plain.{all_simple}
use Rattle.ofn_tree.specs.Lexemes.{end_line}
use Rattle.ofn_tree.specs.Items.{Item, Items}
use Rattle.ofn_tree.specs.TokenLaws.{IsGap, nothing, space}
use Rattle.ofn_expressions.specs.Counts.{Counts}
use Rattle.ofn_expressions.specs.Walk.{Test, shape, after_all, walked}
use Rattle.ofn_expressions.specs.Names.{Prefix, predeclared, prefix_iri}
use Rattle.ofn_expressions.proofs.Walks.{goes_on}
use Rattle.ofn_reader.specs.Groups.{behind_name}
use Rattle.ofn_reader.specs.Prefixes.{with_prefix, prefixes_tests}
use Rattle.ofn_reader.specs.Axioms.{axioms_tests, axioms_in}
use Rattle.ofn_reader.specs.Documents.{start, ontology_tests, form_tests, all_simple_tests, document_tests}
use Rattle.ofn_reader.specs.Documents.{document_axioms}
use Rattle.text_laws.specs.WritingLaws.{axioms_of}
use Rattle.text_laws.proofs.Counting.{walked_after}
use Rattle.text_laws.proofs.Phrases.{Phrase, lines_text, lines_items}
use Rattle.text_laws.proofs.Simple.{simple_again}
use Rattle.text_laws.proofs.Walks.{step}
use Rattle.workload.specs.WorkloadAxioms.{prefix_iri_of_workloads, workload_classes, workload_roles, group_axioms}
use Rattle.workload.specs.WorkloadAxioms.{workload_axioms}
use Rattle.workload.specs.Laws.{IsWorkload, WorkloadsAreDocuments}
use Rattle.workload.proofs.Lines.{local_word, sub_phrase, kernel_phrases, group_phrases, workload_phrases, opened}
use Rattle.workload.proofs.Lines.{text_is, behind_bracket}
use Rattle.workload.proofs.Standing.{lines_stand, opened_utf8, lines_nest}
use Rattle.workload.proofs.Document.{prefix_item, ontology_item, document_items, has_items}
use Rattle.workload.proofs.Counted.{behind_groups, workload_walk}
use Rattle.workload.proofs.Values.{workload_value}

-- ---- the prefix

abbrev known : List Prefix
known = with_prefix predeclared prefix_item

known_iri : prefix_iri known [] ≡ Some prefix_iri_of_workloads
unfolding predeclared
known_iri = refl

prefix_holds : walked start (prefixes_tests predeclared (prefix_item ∷ [])) ≡ Ok start
unfolding predeclared
prefix_holds = refl

-- ---- the first line in the group is an axiom

record BeginsWithAxiom (ps : List Phrase) : Type 0 where
  others : List Phrase
  made : ps ≡ sub_phrase (codes "Q0") (local_word (codes "Q1")) ∷ others

axiom_first : (n : ℕ) → BeginsWithAxiom (workload_phrases n)
axiom_first zero = record { others = drop 1 kernel_phrases; made = refl }
axiom_first (suc n) =
    let front : BeginsWithAxiom (workload_phrases n) = axiom_first n in
    record { others = front.others ++ group_phrases (n + 1); made = ap (λ ps. ps ++ group_phrases (n + 1)) front.made }

no_name_first : (line n : ℕ)
    → behind_name (lines_items line (workload_phrases n)) ≡ lines_items line (workload_phrases n)
no_name_first line n =
    let front : BeginsWithAxiom (workload_phrases n) = axiom_first n in
    subst (λ ps. behind_name (lines_items line ps) ≡ lines_items line ps) (sym front.made) refl

-- ---- no role is transitive

none_in_group : (k : ℕ) → list_any is_transitivity (group_axioms k) ≡ false
none_in_group k = refl

none_transitive : (n : ℕ) → list_any is_transitivity (workload_axioms n) ≡ false
none_transitive zero = refl
none_transitive (suc n) =
    list_any-append is_transitivity (workload_axioms n) (group_axioms (n + 1))
    ∙ (λ i. none_transitive n i || none_in_group (n + 1) i)

without_lines : (xs : List Numbered)
    → list_any (λ (a : Numbered). is_transitivity a.axiom) xs ≡ list_any is_transitivity (axioms_of xs)
without_lines [] = refl
without_lines (x ∷ xs) = ap (λ b. is_transitivity x.axiom || b) (without_lines xs)

module _ (roles : List RoleAxiom) (simple : (r : ℕ) → is_simple roles r ≡ true) where
  are_all_simple : (rs : List ℕ) → are_simple roles rs ≡ true
  are_all_simple [] = refl
  are_all_simple (r ∷ rs) = and_from (is_simple roles r) (are_simple roles rs) (simple r) (are_all_simple rs)

  count_simple : (xs : List Numbered) → list_all (counts_simple roles) xs ≡ true
  count_simple [] = refl
  count_simple (x ∷ xs) =
      and_from (counts_simple roles x) (list_all (counts_simple roles) xs) (are_all_simple (counted_by x.axiom))
      (count_simple xs)

-- ---- the count of axioms

axiom_count : (n : ℕ) → length (workload_axioms n) ≡ 4 * n + 7
axiom_count zero = refl
axiom_count (suc n) = omega (arith, length-append (workload_axioms n) (group_axioms (n + 1)), axiom_count n)

-- the axioms without their lines
abbrev plain : Numbered → Axiom
plain a = a.axiom

-- ---- the document

module _ (n : ℕ) (few : n ≤ 4000) where
  abbrev phrases : List Phrase
  phrases = workload_phrases n

  abbrev lines : Items
  lines = lines_items 3 (workload_phrases n)

  abbrev behind : Counts
  behind = behind_groups n

  form_holds : (last : ℕ)
      → walked start (form_tests predeclared last (document_items (workload_phrases n))) ≡ Ok (behind_groups n)
  form_holds last =
      goes_on start start (prefixes_tests predeclared (prefix_item ∷ []))
      (ontology_tests known last (ontology_item phrases ∷ [])) prefix_holds
      ∙ step start (shape 2 true) (axioms_tests known (behind_name lines)) refl
      ∙ ap (λ is. walked start (axioms_tests known is)) (no_name_first 3 n)
      ∙ workload_walk known known_iri 3 n few

  abbrev axioms : List Numbered
  axioms = document_axioms predeclared (behind_groups n) (document_items (workload_phrases n))

  same_axioms : axioms_of (document_axioms predeclared (behind_groups n) (document_items (workload_phrases n)))
      ≡ workload_axioms n
  same_axioms =
      ap (λ is. axioms_of (axioms_in known behind is)) (no_name_first 3 n)
      ∙ workload_value known known_iri (4 * n + 7) (4 * n + 6) (13 * n + 18) n 3 n (omega arith) few

  roles_simple : (r : ℕ) → is_simple (all_role_axioms axioms) r ≡ true
  roles_simple =
      all_simple axioms (without_lines axioms ∙ ap (list_any is_transitivity) same_axioms ∙ none_transitive n)

  holds : (last : ℕ)
      → walked start (document_tests predeclared last (document_items (workload_phrases n))) ≡ Ok (behind_groups n)
  holds last =
      let items : List Item = document_items phrases in
      let form : List Test = form_tests predeclared last items in
      let counts_are : after_all start form ≡ behind = walked_after start form behind (form_holds last) in
      goes_on start behind form (all_simple_tests (document_axioms predeclared (after_all start form) items))
      (form_holds last)
      ∙ ap (λ s. walked behind (all_simple_tests (document_axioms predeclared s items))) counts_are
      ∙ simple_again axioms axioms behind refl (count_simple (all_role_axioms axioms) roles_simple axioms)

  says : IsWorkload n (opened (lines_text (workload_phrases n)))
  says =
      let stand = lines_stand n few in
      record {
        read = record { axioms = axioms; classes = workload_classes n; roles = workload_roles; individuals = [] };
        kept = record { prefixes = known; nodes = 13 * n + 18 };
        end = 66 + length (lines_text phrases) + 1;
        is_document = record {
          items = document_items phrases;
          made = has_items phrases stand.bytes (opened_utf8 phrases stand.texts) (lines_nest n 3);
          behind = behind;
          holds = holds (end_line (opened (lines_text phrases)));
          listed = refl;
          takes = refl;
        };
        alone = subst (IsGap true) (sym (behind_bracket (lines_text phrases))) (space 10 [] refl nothing);
        classes = refl;
        roles = refl;
        individuals = refl;
        axioms = same_axioms;
        count = sym (length-map axioms plain) ∙ ap length same_axioms ∙ axiom_count n;
        knows = known_iri;
        nodes = refl;
      }

pub workloads_are_documents : WorkloadsAreDocuments
workloads_are_documents n few = subst (IsWorkload n) (sym (text_is n)) (says n few)
