-- What a document says can be written.
use Rattle.std.proofs.Common.{◌≡◌, ℕ, zero, suc, ◌≤◌, Bool, true, false, cond, List, [], ◌∷◌, length, drop, Ok, refl}
use Rattle.std.proofs.Common.{ap, sym, ◌∙◌, subst, arith, codes}
use Rattle.std.specs.Prelude.{nat_eq, is_some, min}
use Rattle.std.specs.List.{list_all, prefix_len}
use Rattle.shq_terms.specs.Listed.{Listed}
use Rattle.shq_terms.specs.Distinct.{AreDistinct}
use Rattle.shq_terms.specs.declared.axioms.Numbered.{Numbered}
use Rattle.ofn_tree.specs.Lexemes.{end_line}
use Rattle.ofn_tree.specs.Items.{Item, name_item, iri_item, literal_item, sign_item, group_item, Items, no_items, item}
use Rattle.ofn_tree.specs.Items.{items_of, nesting, nesting_all}
use Rattle.ontology_limits.specs.Simple.{counts_simple, all_role_axioms}
use Rattle.ofn_expressions.specs.Counts.{Counts}
use Rattle.ofn_expressions.specs.Walk.{Test, shape, clash, after_all, walked}
use Rattle.ofn_expressions.specs.Names.{Prefix, item_line, predeclared, prefix_iri}
use Rattle.ofn_expressions.specs.Classes.{item_count, Keeps}
use Rattle.ofn_expressions.proofs.Kept.{keeps_all}
use Rattle.ofn_reader.specs.DocumentContext.{DocumentContext}
use Rattle.ofn_reader.specs.Groups.{is_group, is_iri_or_name, inner_items, behind_name, axiom_items}
use Rattle.ofn_reader.specs.Prefixes.{declared_name, is_equals, declared_iri, or_empty, agrees, prefix_items_tests}
use Rattle.ofn_reader.specs.Prefixes.{prefix_tests, prefixes_tests, with_prefix}
use Rattle.ofn_reader.specs.Axioms.{axioms_tests}
use Rattle.ofn_reader.specs.Documents.{start, form_tests, all_simple_tests, is_prefix_group, prefix_groups}
use Rattle.ofn_reader.specs.Documents.{behind_prefixes, document_prefixes, ontology_tests, ontology_axioms}
use Rattle.ofn_reader.specs.Documents.{document_axioms, IsDocument}
use Rattle.ofn_reader.specs.Queries.{query_start}
use Rattle.ofn_reader.specs.Held.{expression_count, parts_held, counts_of}
use Rattle.ofn_writer.specs.Canonical.{ontology_text}
use Rattle.text_laws.specs.Writable.{CanBeWritten}
use Rattle.text_laws.specs.WritingLaws.{IsDocumentOf}
use Rattle.text_laws.proofs.Whole.{limits_from_whole, part_total, held_total, expression_total}
use Rattle.text_laws.proofs.GoodTokens.{IsGoodItem, AreGoodItems, tokens_good, tree_good}
use Rattle.text_laws.proofs.GoodNames.{AreGoodPrefixes, predeclared_good, prefixes_good, front_items_good}
use Rattle.text_laws.proofs.GoodNames.{rest_items_good}
use Rattle.text_laws.proofs.Counting.{held, Both, both, nothing_held, walked_after, never, IsWithin}
use Rattle.text_laws.proofs.ReadAxioms.{AreSaid, axioms_read}
use Rattle.text_laws.proofs.Simple.{simple_held}
use Rattle.text_laws.proofs.Read.{written_is_read}

-- ---- declarations of prefixes count nothing

entry_stays : (k l m n : ℕ) (a b c d : Bool) (s new : Counts)
    → walked s (shape k a ∷ (shape l b ∷ (shape m c ∷ (clash n d ∷ [])))) ≡ Ok new → s ≡ new
entry_stays k l m n a b c d s new h =
    let first = held s (shape k a) (shape l b ∷ (shape m c ∷ (clash n d ∷ []))) new h in
    let second = held s (shape l b) (shape m c ∷ (clash n d ∷ [])) new first.later in
    let third = held s (shape m c) (clash n d ∷ []) new second.later in
    nothing_held s new (held s (clash n d) [] new third.later).later

prefix_items_stay : (ps : List Prefix) (is : Items) (s new : Counts) → walked s (prefix_items_tests ps is) ≡ Ok new
    → s ≡ new
prefix_items_stay ps no_items s new h = nothing_held s new h
prefix_items_stay ps (item n no_items) s new h = nothing_held s new h
prefix_items_stay ps (item n (item e no_items)) s new h = nothing_held s new h
prefix_items_stay ps (item n (item e (item i is))) s new h =
    entry_stays (item_line n) (item_line e) (item_line i) (item_line n) (is_some (declared_name n)) (is_equals e)
    (is_some (declared_iri i)) (agrees (prefix_iri ps (or_empty (declared_name n))) (or_empty (declared_iri i))) s new h

prefixes_stay : (ps : List Prefix) (is : List Item) (s new : Counts) → walked s (prefixes_tests ps is) ≡ Ok new
    → s ≡ new
prefixes_stay ps [] s new h = nothing_held s new h
prefixes_stay ps (i ∷ is) s new h =
    let b = both s (prefix_tests ps i) (prefixes_tests (with_prefix ps i) is) new h in
    let form =
    held s (shape (item_line i) (nat_eq (item_count (inner_items i)) 3)) (prefix_items_tests ps (inner_items i)) b.mid
    b.first in
    prefix_items_stay ps (inner_items i) s b.mid form.later ∙ prefixes_stay (with_prefix ps i) is b.mid new b.second

-- ---- the items of the ontology's group

rest_nests : (n : ℕ) (is : List Item) → nesting_all (items_of (drop n is)) ≤ nesting_all (items_of is)
rest_nests zero is = omega arith
rest_nests (suc n) [] = omega arith
rest_nests (suc n) (i ∷ is) = omega (arith, rest_nests n is)

record AreFlat (is : Items) : Type 0 where
  good : AreGoodItems is
  nested : nesting_all is ≤ 63

behind_flat : (is : Items) → AreFlat is → AreFlat (behind_name is)
behind_flat no_items flat = flat
behind_flat (item i is) flat = by (is_iri_or_name i)
  where
    by : (v : Bool) → AreFlat (cond v is (item i is))
    by true = record { good = flat.good.1; nested = omega (arith, flat.nested) }
    by false = flat

inner_flat : (i : Item) → IsGoodItem i → nesting i ≤ 64 → AreFlat (inner_items i)
inner_flat (name_item w n) good deep = record { good = tt; nested = omega arith }
inner_flat (iri_item w n) good deep = record { good = tt; nested = omega arith }
inner_flat (literal_item n) good deep = record { good = tt; nested = omega arith }
inner_flat (sign_item k n) good deep = record { good = tt; nested = omega arith }
inner_flat (group_item h is n) good deep = record { good = good; nested = omega (arith, deep) }

ontology_read : (ps : List Prefix) (f : Counts) (end : ℕ) (is : List Item) → AreGoodItems (items_of is)
    → nesting_all (items_of is) ≤ 64 → (s new : Counts) → walked s (ontology_tests ps end is) ≡ Ok new → Keeps new f
    → AreSaid ps f 62 s new (ontology_axioms ps f is)
ontology_read ps f end [] good deep s new h keeps = absurd (never s new (shape end false) [] refl h)
ontology_read ps f end (i ∷ is) good deep s new h keeps =
    let inner : Items = axiom_items (inner_items i) in
    let form = held s (shape (item_line i) (is_group (codes "Ontology") i)) (axioms_tests ps inner) new h in
    let flat : AreFlat inner =
    behind_flat (behind_name (inner_items i))
    (behind_flat (inner_items i) (inner_flat i good.0 (omega (arith, deep)))) in
    axioms_read ps f 62 inner flat.good flat.nested s new form.later keeps

-- ---- the document

pub no_names_distinct : AreDistinct []
no_names_distinct = record { same_place = λ i j less other same. absurd (omega (arith, less)) }

start_within : IsWithin start
start_within = record {
  class_iris = refl;
  role_iris = refl;
  individual_iris = refl;
  distinct_classes = no_names_distinct;
  distinct_roles = no_names_distinct;
  distinct_individuals = no_names_distinct;
  few_classes = omega arith;
  few_roles = omega arith;
  few_individuals = omega arith;
  few_axioms = omega arith;
  few_parts = omega arith;
  few_nodes = omega arith;
}

module _ (text : List ℕ) (o : Listed) (kept : DocumentContext) (end : ℕ) (d : IsDocument text o kept end) where
  items_good : AreGoodItems (items_of d.items)
  items_good = tree_good d.made.tokens.tokens d.items d.made.tree (tokens_good text d.made.tokens d.made.cut)

  groups : ℕ
  groups = prefix_len is_prefix_group d.items

  prefixes_are : AreGoodPrefixes (document_prefixes predeclared d.items)
  prefixes_are =
      prefixes_good predeclared (prefix_groups d.items) predeclared_good
      (front_items_good (prefix_len is_prefix_group d.items) d.items items_good)

  abbrev form : List Test
  form = form_tests predeclared (end_line text) d.items

  halves : Both start form (all_simple_tests (document_axioms predeclared (after_all start form) d.items)) d.behind
  halves =
      both start (form_tests predeclared (end_line text) d.items)
      (all_simple_tests
      (document_axioms predeclared (after_all start (form_tests predeclared (end_line text) d.items)) d.items))
      d.behind d.holds

  simple_part : (halves.mid ≡ d.behind)
      × (list_all (counts_simple (all_role_axioms (document_axioms predeclared (after_all start form) d.items)))
      (document_axioms predeclared (after_all start form) d.items)
      ≡ true)
  simple_part =
      let axioms : List Numbered = document_axioms predeclared (after_all start form) d.items in
      simple_held (all_role_axioms axioms) axioms halves.mid d.behind halves.second

  form_holds : walked start form ≡ Ok d.behind
  form_holds = halves.first ∙ ap Ok simple_part.0

  simple_roles : list_all (counts_simple (all_role_axioms (document_axioms predeclared d.behind d.items)))
      (document_axioms predeclared d.behind d.items)
      ≡ true
  simple_roles =
      let counts_are : after_all start form ≡ d.behind = walked_after start form d.behind form_holds in
      subst (λ s. list_all (counts_simple (all_role_axioms (document_axioms predeclared s d.items)))
      (document_axioms predeclared s d.items)
      ≡ true)
      counts_are simple_part.1

  said : AreSaid (document_prefixes predeclared d.items) d.behind 62 start d.behind
      (document_axioms predeclared d.behind d.items)
  said =
      let ps : List Prefix = document_prefixes predeclared d.items in
      let rest : List Item = behind_prefixes d.items in
      let b =
      both start (prefixes_tests predeclared (prefix_groups d.items)) (ontology_tests ps (end_line text) rest) d.behind
      form_holds in
      let stays : start ≡ b.mid = prefixes_stay predeclared (prefix_groups d.items) start b.mid b.first in
      let second : walked start (ontology_tests ps (end_line text) rest) ≡ Ok d.behind =
      ap (λ s. walked s (ontology_tests ps (end_line text) rest)) stays ∙ b.second in
      ontology_read ps d.behind (end_line text) rest
      (rest_items_good (prefix_len is_prefix_group d.items) d.items items_good)
      (omega (arith, rest_nests (prefix_len is_prefix_group d.items) d.items, d.made.tree.nested)) start d.behind second
      (keeps_all d.behind)

  within : IsWithin d.behind
  within = said.rises.within prefixes_are start_within

  written : CanBeWritten (record {
    axioms = document_axioms predeclared d.behind d.items;
    classes = d.behind.classes;
    roles = d.behind.roles;
    individuals = d.behind.individuals;
  })
  written =
      let axioms : List Numbered = document_axioms predeclared d.behind d.items in
      let limits = limits_from_whole axioms said.whole in
      record {
        within = record {
          listed = said.listed;
          items = limits.items;
          counts = limits.counts;
          simple = simple_roles;
          few_axioms = omega (arith, within.few_axioms, said.rises.axioms);
          few_classes = within.few_classes;
          few_roles = within.few_roles;
          few_individuals = within.few_individuals;
          few_parts = omega (arith, within.few_parts, said.rises.parts, part_total axioms);
        };
        class_iris = within.class_iris;
        role_iris = within.role_iris;
        individual_iris = within.individual_iris;
        distinct_classes = within.distinct_classes;
        distinct_roles = within.distinct_roles;
        distinct_individuals = within.distinct_individuals;
        readable = limits.readable;
        nested = said.nested;
        few_expressions = omega (arith, within.few_nodes, said.rises.nodes, expression_total axioms);
      }

  -- what was counted is what a later reader counts
  counted : d.behind
      ≡ counts_of (record {
        axioms = document_axioms predeclared d.behind d.items;
        classes = d.behind.classes;
        roles = d.behind.roles;
        individuals = d.behind.individuals;
      })
  counted =
      let axioms : List Numbered = document_axioms predeclared d.behind d.items in
      let number : d.behind.axioms ≡ length axioms = omega (arith, said.rises.axioms) in
      let parts_are : d.behind.parts ≡ min (parts_held axioms) 500000 =
      omega (arith, within.few_parts, said.rises.parts, held_total axioms) in
      let nodes_are : d.behind.nodes ≡ min (expression_count axioms) 262144 =
      omega (arith, within.few_nodes, said.rises.nodes, expression_total axioms) in
      λ i. record {
        axioms = number i;
        parts = parts_are i;
        nodes = nodes_are i;
        classes = d.behind.classes;
        roles = d.behind.roles;
        individuals = d.behind.individuals;
      }

  pub document_counted : (d.behind ≡ counts_of o) × (kept.nodes ≡ (counts_of o).nodes)
  document_counted =
      let all : d.behind ≡ counts_of o = counted ∙ ap counts_of (sym d.listed) in
      (all, ap (λ (k : DocumentContext). k.nodes) d.takes ∙ ap (λ (s : Counts). s.nodes) all)

  pub can_be_written : CanBeWritten o
  can_be_written = subst CanBeWritten (sym d.listed) written

  -- from here a query on the document is read
  pub prefixes_kept : AreGoodPrefixes kept.prefixes
  prefixes_kept = subst (λ (k : DocumentContext). AreGoodPrefixes k.prefixes) (sym d.takes) prefixes_are

  pub query_within : IsWithin (query_start o kept.nodes)
  query_within = record {
    class_iris = can_be_written.class_iris;
    role_iris = can_be_written.role_iris;
    individual_iris = can_be_written.individual_iris;
    distinct_classes = can_be_written.distinct_classes;
    distinct_roles = can_be_written.distinct_roles;
    distinct_individuals = can_be_written.distinct_individuals;
    few_classes = can_be_written.within.few_classes;
    few_roles = can_be_written.within.few_roles;
    few_individuals = can_be_written.within.few_individuals;
    few_axioms = can_be_written.within.few_axioms;
    few_parts = omega arith;
    few_nodes = subst (λ (k : DocumentContext). k.nodes ≤ 262144) (sym d.takes) within.few_nodes;
  }

  pub read_again : IsDocumentOf (ontology_text o) o
  read_again = written_is_read o can_be_written
