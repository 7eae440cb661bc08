-- The query of a workload is read on its document.
use Rattle.std.proofs.Common.{◌≡◌, ℕ, ◌+◌, ◌*◌, ◌<◌, ◌≤◌, true, List, [], ◌∷◌, ◌++◌, length, position, Some, Ok, refl}
use Rattle.std.proofs.Common.{ap, sym, ◌∙◌, subst, arith, codes}
use Rattle.std.specs.Prelude.{nat_lt}
use Rattle.std.specs.Str.{bytes_eq}
use Rattle.shq_terms.specs.declared.axioms.On.TheVariants.{Any}
use Rattle.shq_terms.specs.Concept.{name}
use Rattle.shq_terms.specs.Listed.{Listed}
use Rattle.shq_terms.specs.Names.{with_at}
use Rattle.ofn_tree.specs.Lexemes.{end_line}
use Rattle.ofn_tree.specs.Items.{Item}
use Rattle.ofn_expressions.specs.Counts.{Counts}
use Rattle.ofn_expressions.specs.Walk.{Test, shape, simple, after_all, walked}
use Rattle.ofn_expressions.specs.Names.{Prefix}
use Rattle.ofn_expressions.specs.Classes.{class_tests, concept_of}
use Rattle.ofn_expressions.proofs.Walks.{goes_on}
use Rattle.ofn_reader.specs.Keywords.{axiom_keyword}
use Rattle.ofn_reader.specs.Queries.{axiom_query_tests, query_form_tests, query_tests, first_query, counted_by_first}
use Rattle.ofn_reader.specs.Queries.{query_start, IsQuery}
use Rattle.role_box.specs.Simple.{are_simple, all_role_axioms}
use Rattle.text_laws.proofs.Alone.{IsAlone, phrase_items}
use Rattle.text_laws.proofs.Checks.{le_true, lt_true}
use Rattle.text_laws.proofs.Counting.{walked_after}
use Rattle.text_laws.proofs.Phrases.{Phrase, text_of, item_of}
use Rattle.text_laws.proofs.Walks.{step, alone}
use Rattle.workload.specs.WorkloadAxioms.{full_name}
use Rattle.workload.specs.Laws.{IsWorkload, asked, WorkloadQueriesAreRead}
use Rattle.workload.proofs.Lines.{local_word, sub_phrase}
use Rattle.workload.proofs.Names.{KernelPlaces, kernel_found, class_count}
use Rattle.workload.proofs.Standing.{short_word, sub_stands}
use Rattle.workload.proofs.Tests.{Lists, word_item, class_walk}
use Rattle.workload.proofs.Values.{class_value}

abbrev phrase : Phrase
phrase = sub_phrase (codes "Q0") (local_word (codes "Q3"))

abbrev query_item : Item
query_item = item_of 1 phrase

query_alone : IsAlone phrase
query_alone = record { no_mark = refl; no_document = refl }

tests_are : (ps : List Prefix)
    → axiom_query_tests ps query_item
    ≡ shape 1 true ∷ (class_tests ps (word_item (codes "Q0") 1) ++ (class_tests ps (word_item (codes "Q3") 1) ++ []))
unfolding axiom_keyword
tests_are ps = refl

module _ (n : ℕ) (text : List ℕ) (w : IsWorkload n text) (few : n ≤ 4000) where
  abbrev o : Listed
  o = w.read

  abbrev ps : List Prefix
  ps = w.kept.prefixes

  places : KernelPlaces o.classes
  places = subst KernelPlaces (sym w.classes) (kernel_found n)

  class_total : length o.classes ≡ 4 * n + 7
  class_total = ap length w.classes ∙ class_count n

  finds : (local : List ℕ) (k : ℕ) → position (bytes_eq (full_name local)) o.classes ≡ Some k
      → Lists o.classes local o.classes
  finds local k at = record {
    names = ap (λ r. with_at r o.classes (full_name local)) at;
    room = le_true (length o.classes) 20000 (omega (arith, class_total, few));
  }

  -- the counts of a query on the document, where these individuals are listed
  abbrev from : List (List ℕ) → ℕ → Counts
  from individuals nodes = record {
    axioms = length o.axioms;
    parts = 0;
    nodes = nodes;
    classes = o.classes;
    roles = o.roles;
    individuals = individuals;
  }

  form_holds : (last : ℕ)
      → walked (query_start o w.kept.nodes) (query_form_tests ps last (query_item ∷ []))
      ≡ Ok (query_start o (w.kept.nodes + 1 + 1))
  form_holds last =
      subst (λ (is : List (List ℕ)). walked (from is w.kept.nodes) (query_form_tests ps last (query_item ∷ []))
      ≡ Ok (from is (w.kept.nodes + 1 + 1)))
      (sym w.individuals) holds_from
    where
      holds_from : walked (from [] w.kept.nodes) (query_form_tests ps last (query_item ∷ []))
          ≡ Ok (from [] (w.kept.nodes + 1 + 1))
      holds_from =
          let s : Counts = from [] w.kept.nodes in
          let mid : Counts = from [] (w.kept.nodes + 1) in
          let end : Counts = from [] (w.kept.nodes + 1 + 1) in
          let ts : List Test = class_tests ps (word_item (codes "Q0") 1) in
          let us : List Test = class_tests ps (word_item (codes "Q3") 1) in
          let all : walked s (axiom_query_tests ps query_item) ≡ Ok end =
          ap (walked s) (tests_are ps)
          ∙ step s (shape 1 true) (ts ++ (us ++ [])) refl
          ∙ goes_on s mid ts (us ++ [])
          (class_walk ps w.knows 1 (length o.axioms) 0 w.kept.nodes o.classes o.roles (codes "Q0") o.classes
          (finds (codes "Q0") 0 places.q0) (omega (arith, w.nodes, few)))
          ∙ alone mid end us
          (class_walk ps w.knows 1 (length o.axioms) 0 (w.kept.nodes + 1) o.classes o.roles (codes "Q3") o.classes
          (finds (codes "Q3") 5 places.q3) (omega (arith, w.nodes, few))) in
          alone s end (axiom_query_tests ps query_item) all

  asked_is : (nodes : ℕ) → first_query ps (query_start o nodes) (query_item ∷ []) ≡ asked ∷ []
  unfolding axiom_keyword
  asked_is nodes =
      let s : Counts = query_start o nodes in
      let sub : concept_of ps s (word_item (codes "Q0") 1) ≡ name 0 =
      class_value ps w.knows s 1 (codes "Q0") 0 places.q0 in
      let sup : concept_of ps s (word_item (codes "Q3") 1) ≡ name 5 =
      class_value ps w.knows s 1 (codes "Q3") 5 places.q3 in
      λ i. record { sub = sub i; sup = sup i; on = Any } ∷ []

  holds : (last : ℕ)
      → walked (query_start o w.kept.nodes)
      (query_tests ps o.axioms (query_start o w.kept.nodes) last (query_item ∷ []))
      ≡ Ok (query_start o (w.kept.nodes + 1 + 1))
  holds last =
      let s : Counts = query_start o w.kept.nodes in
      let end : Counts = query_start o (w.kept.nodes + 1 + 1) in
      let form : List Test = query_form_tests ps last (query_item ∷ []) in
      let counts_are : after_all s form ≡ end = walked_after s form end (form_holds last) in
      let roles_are : counted_by_first (first_query ps (after_all s form) (query_item ∷ [])) ≡ [] =
      ap (λ (t : Counts). counted_by_first (first_query ps t (query_item ∷ []))) counts_are
      ∙ ap counted_by_first (asked_is (w.kept.nodes + 1 + 1)) in
      let all_simple :
      are_simple (all_role_axioms o.axioms) (counted_by_first (first_query ps (after_all s form) (query_item ∷ [])))
      ≡ true = ap (are_simple (all_role_axioms o.axioms)) roles_are in
      goes_on s end form
      (simple 1
      (are_simple (all_role_axioms o.axioms) (counted_by_first (first_query ps (after_all s form) (query_item ∷ []))))
      ∷ [])
      (form_holds last)
      ∙ step end
      (simple 1
      (are_simple (all_role_axioms o.axioms) (counted_by_first (first_query ps (after_all s form) (query_item ∷ [])))))
      [] all_simple

  is_query : IsQuery ps o.axioms (query_start o w.kept.nodes) (codes "SubClassOf(:Q0 :Q3)")
      (query_start o (w.kept.nodes + 1 + 1)) asked
  is_query = record {
    short = omega arith;
    items = query_item ∷ [];
    end = length (text_of phrase);
    made =
        phrase_items phrase
        (sub_stands (codes "Q0") (local_word (codes "Q3")) (short_word (codes "Q0") refl refl)
        (short_word (codes "Q3") refl refl))
        query_alone (omega arith);
    holds = holds (end_line (codes "SubClassOf(:Q0 :Q3)"));
    pair = asked_is (w.kept.nodes + 1 + 1);
  }

  is_listed : (k : ℕ) → k < 7 → nat_lt k (length o.classes) ≡ true
  is_listed k less = lt_true k (length o.classes) (omega (arith, class_total, less))

pub queries_are_read : WorkloadQueriesAreRead
queries_are_read n text w few = (
  query_start w.read (w.kept.nodes + 1 + 1),
  is_query n text w few,
  (is_listed n text w few 0 (omega arith), is_listed n text w few 5 (omega arith), tt),
  refl,
)
