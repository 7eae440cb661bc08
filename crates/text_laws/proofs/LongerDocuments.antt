-- A document with another text behind it stays the same document.
use Rattle.std.proofs.Common.{◌≡◌, ℕ, suc, ◌+◌, ◌≤◌, Bool, true, false, cond, List, [], ◌∷◌, ◌++◌, length, take, Some}
use Rattle.std.proofs.Common.{None, Result, Ok, Err, refl, ap, sym, ◌∙◌, subst, arith, ◌&&◌, nat_eq, codes, bytes_eq}
use Rattle.std.specs.Result.{result_ok}
use Rattle.std.specs.List.{list_all, prefix_len}
use Rattle.ofn_tree.specs.declared.fault.TextFault.{TextFault}
use Rattle.ofn_tree.specs.declared.fault.TextFault.TheVariants.{Unbalanced}
use Rattle.ofn_tree.specs.Token.{PlainToken}
use Rattle.ofn_tree.specs.Lexemes.{end_line, pieces}
use Rattle.ofn_tree.specs.Items.{Item, name_item, iri_item, literal_item, sign_item, group_item, Items}
use Rattle.ofn_tree.specs.Document.{nothing_met, document}
use Rattle.ofn_tree.specs.Faults.{depth_behind, fault_or, bracket_fault}
use Rattle.ofn_tree.proofs.Slices.{slices}
use Rattle.shq_terms.specs.Listed.{Listed}
use Rattle.ofn_expressions.specs.Counts.{Counts}
use Rattle.ofn_expressions.specs.Walk.{Test, shape, after_all, walked}
use Rattle.ofn_expressions.specs.Names.{Prefix, item_line, predeclared}
use Rattle.ofn_reader.specs.DocumentContext.{DocumentContext}
use Rattle.ofn_reader.specs.Groups.{is_group, inner_items, axiom_items}
use Rattle.ofn_reader.specs.Prefixes.{prefixes_tests}
use Rattle.ofn_reader.specs.Axioms.{axioms_tests}
use Rattle.ofn_reader.specs.Texts.{HasItems}
use Rattle.ofn_reader.specs.Documents.{start, is_prefix_group, prefix_groups, behind_prefixes, document_prefixes}
use Rattle.ofn_reader.specs.Documents.{ontology_tests, form_tests, document_axioms, all_simple_tests, document_tests}
use Rattle.ofn_reader.specs.Documents.{IsDocument}
use Rattle.text_laws.specs.EndLaws.{DocumentsEndInTheirText, TextsBehindDocumentsAreNotRead}
use Rattle.text_laws.proofs.Counting.{both, held, never}
use Rattle.text_laws.proofs.TextsBehind.{EndsAs, texts_behind}
use Rattle.text_laws.proofs.LastBracket.{is_any_group, opens_closes}

pub documents_end : DocumentsEndInTheirText
documents_end text o kept end d = subst (λ n. n ≤ length text) d.made.behind (slices text d.made.tokens d.made.cut).1

-- ---- brackets that balance do so wherever the text ends

balanced_by : (end other : ℕ) (r : Result ℕ TextFault) (ts : List PlainToken)
    → ((d : ℕ) → bracket_fault end d ts ≡ None → bracket_fault other d ts ≡ None)
    → fault_or r (λ e. bracket_fault end e ts) ≡ None
    → fault_or r (λ e. bracket_fault other e ts) ≡ None
balanced_by end other (Ok d) ts rest h = rest d h
balanced_by end other (Err fault) ts rest h = absurd (cc h)

still_balanced : (end other d : ℕ) (ts : List PlainToken) → bracket_fault end d ts ≡ None
    → bracket_fault other d ts ≡ None
still_balanced end other d [] h = by (nat_eq d 0) h
  where
    by : (v : Bool) → cond v None (Some (Unbalanced end)) ≡ None → cond v None (Some (Unbalanced other)) ≡ None
    by true balanced = refl
    by false balanced = absurd (cc balanced)
still_balanced end other d (t ∷ ts) h =
    balanced_by end other (depth_behind d t) ts (λ e. still_balanced end other e ts) h

-- ---- the group of the document

-- the items behind the prefixes begin with the document's group
record HasGroup (is : List Item) : Type 0 where
  name : List ℕ
  inner : Items
  line : ℕ
  rest : List Item
  made : is ≡ group_item (Some name) inner line ∷ rest
  named : bytes_eq name (codes "Ontology") ≡ true

group_of : (i : Item) (is : List Item) → is_group (codes "Ontology") i ≡ true → HasGroup (i ∷ is)
group_of (group_item (Some w) inner line) is h =
    record { name = w; inner = inner; line = line; rest = is; made = refl; named = h }
group_of (group_item None inner line) is h = absurd (cc h)
group_of (name_item w line) is h = absurd (cc h)
group_of (iri_item w line) is h = absurd (cc h)
group_of (literal_item line) is h = absurd (cc h)
group_of (sign_item kind line) is h = absurd (cc h)

group_tested : (ps : List Prefix) (end : ℕ) (is : List Item) (s new : Counts)
    → walked s (ontology_tests ps end is) ≡ Ok new → HasGroup is
group_tested ps end [] s new h = absurd (never s new (shape end false) [] refl h)
group_tested ps end (i ∷ is) s new h =
    group_of i is
    (held s (shape (item_line i) (is_group (codes "Ontology") i)) (axioms_tests ps (axiom_items (inner_items i))) new
    h).now

-- the declarations of prefixes are groups
prefix_is_group : (i : Item) → is_prefix_group i ≡ true → is_any_group i ≡ true
prefix_is_group (group_item head inner line) h = refl
prefix_is_group (name_item w line) h = h
prefix_is_group (iri_item w line) h = h
prefix_is_group (literal_item line) h = h
prefix_is_group (sign_item kind line) h = h

prefixes_are_groups : (is : List Item) → list_all is_any_group (prefix_groups is) ≡ true
prefixes_are_groups [] = refl
prefixes_are_groups (i ∷ is) = by (is_prefix_group i) (prefix_is_group i) (prefixes_are_groups is)
  where
    by : (v : Bool) → (v ≡ true → is_any_group i ≡ true) → list_all is_any_group (prefix_groups is) ≡ true
        → list_all is_any_group (take (cond v (1 + prefix_len is_prefix_group is) 0) (i ∷ is)) ≡ true
    by true group others =
        let count : 1 + prefix_len is_prefix_group is ≡ suc (prefix_len is_prefix_group is) = omega arith in
        ap (λ n. list_all is_any_group (take n (i ∷ is))) count ∙ (λ j. group refl j && others j)
    by false group others = refl

-- the tests of such a document are the same wherever its text ends
same_tests : (end other : ℕ) (is : List Item) → HasGroup (behind_prefixes is)
    → document_tests predeclared end is ≡ document_tests predeclared other is
same_tests end other is g =
    let ps : List Prefix = document_prefixes predeclared is in
    let front : List Test = prefixes_tests predeclared (prefix_groups is) in
    let same : ontology_tests ps end (behind_prefixes is) ≡ ontology_tests ps other (behind_prefixes is) =
    ap (ontology_tests ps end) g.made ∙ ap (ontology_tests ps other) (sym g.made) in
    ap (λ (ts : List Test). (front ++ ts)
    ++ all_simple_tests (document_axioms predeclared (after_all start (front ++ ts)) is))
    same

module _ (text : List ℕ) (o : Listed) (kept : DocumentContext) (end : ℕ) (d : IsDocument text o kept end) where
  group : HasGroup (behind_prefixes d.items)
  group =
      let form : List Test = form_tests predeclared (end_line text) d.items in
      let ps : List Prefix = document_prefixes predeclared d.items in
      let first =
      both start form (all_simple_tests (document_axioms predeclared (after_all start form) d.items)) d.behind
      d.holds in
      let second =
      both start (prefixes_tests predeclared (prefix_groups d.items))
      (ontology_tests ps (end_line text) (behind_prefixes d.items)) first.mid first.first in
      group_tested ps (end_line text) (behind_prefixes d.items) second.mid first.mid second.second

  ends : EndsAs nothing_met (pieces text) d.made.tokens
  ends =
      opens_closes (end_line text) group.line (prefix_len is_prefix_group d.items) text group.name d.made.tokens d.items
      group.rest group.inner
      d.made.cut d.made.tree d.made.balanced (prefixes_are_groups d.items) group.made group.named

  module _ (more : List ℕ) where
    longer_items : HasItems (take d.made.tokens.place_behind text ++ more) d.items end
    longer_items =
        let all : List ℕ = take d.made.tokens.place_behind text ++ more in
        let same : document all ≡ Ok d.made.tokens = texts_behind text more d.made.tokens ends (length all) in
        record {
          tokens = d.made.tokens;
          cut = ap result_ok same;
          balanced = still_balanced (end_line text) (end_line all) 0 d.made.tokens.tokens d.made.balanced;
          tree = d.made.tree;
          behind = d.made.behind;
        }

    longer_document : IsDocument (take d.made.tokens.place_behind text ++ more) o kept end
    longer_document = record {
      items = d.items;
      made = longer_items;
      behind = d.behind;
      holds =
          ap (walked start)
          (same_tests (end_line (take d.made.tokens.place_behind text ++ more)) (end_line text) d.items group)
          ∙ d.holds;
      listed = d.listed;
      takes = d.takes;
    }

pub longer_documents : TextsBehindDocumentsAreNotRead
longer_documents text o kept end d more =
    subst (λ n. IsDocument (take n text ++ more) o kept end) d.made.behind (longer_document text o kept end d more)
