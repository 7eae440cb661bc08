-- A numbered axiom is its head and its items; a document is its prefixes and its ontology.
use Rattle.std.proofs.Common.{◌≡◌, ℕ, List, [], ◌∷◌, ◌++◌, length, get_or, drop, true, false, Result, Ok, Err, ap, sym}
use Rattle.std.proofs.Common.{◌∙◌, subst}
use Rattle.std.specs.Prelude.{OnOk, IfErr, nat_eq}
use Rattle.shq_terms.specs.declared.axioms.Numbered.{Numbered}
use Rattle.ofn_tree.specs.Items.{Item, items_of}
use Rattle.ofn_expressions.specs.Counts.{Counts, State}
use Rattle.ofn_expressions.specs.Walk.{Test, walked, Judged}
use Rattle.ofn_expressions.specs.Names.{Prefix}
use Rattle.ofn_expressions.specs.Classes.{item_count}
use Rattle.ofn_expressions.specs.declared.refusal.Refusal.{Refusal}
use Rattle.ofn_expressions.specs.declared.refusal.Refusal.TheVariants.{NoMemory}
use Rattle.ofn_expressions.proofs.Walks.{goes_on, stops, goes_judged}
use Rattle.ofn_expressions.proofs.Lists.{item_count_is}
use Rattle.ofn_reader.specs.Axioms.{head_tests, operand_tests, numbered_tests}
use Rattle.ofn_reader.specs.Prefixes.{prefixes_tests, prefixes_behind}
use Rattle.ofn_reader.specs.Documents.{prefix_groups, behind_prefixes, document_prefixes, form_tests, ontology_tests}
use Rattle.ofn_reader.specs.Queries.{nothing_tests, alone_tests}
use Rattle.ofn_reader.specs.declared.keywords.AxiomKind.{AxiomKind}

module _ (ps : List Prefix) (k : AxiomKind) (line : ℕ) (items : List Item) (s : Counts) where
  counted : head_tests k line (item_count (items_of items)) ≡ head_tests k line (length items)
  counted = ap (head_tests k line) (item_count_is items)

  pub numbered_stops : (e : Refusal) → walked s (head_tests k line (length items)) ≡ Err e
      → walked s (numbered_tests ps k line (items_of items)) ≡ Err e
  numbered_stops e first =
      stops s (head_tests k line (item_count (items_of items))) (operand_tests ps k (items_of items)) e
      (ap (walked s) counted ∙ first)

  module _ (mid : Counts) (first : walked s (head_tests k line (length items)) ≡ Ok mid) where
    pub numbered_goes : walked s (numbered_tests ps k line (items_of items))
        ≡ walked mid (operand_tests ps k (items_of items))
    numbered_goes =
        goes_on s mid (head_tests k line (item_count (items_of items))) (operand_tests ps k (items_of items))
        (ap (walked s) counted ∙ first)

-- tests that were walked before memory was asked for
pub judged_done : {X : Type 0} (r : Result X Refusal) (s : Counts) (mid new : State) (read : List Numbered)
    (ts : List Test)
    → walked s ts ≡ Ok mid.counts → OnOk r (new ≡ record mid { read = read }) → IfErr r (λ e. e ≡ NoMemory)
    → Judged r s ts new.counts
judged_done (Ok x) s mid new read ts told same memory = told ∙ ap Ok (sym (ap (λ (t : State). t.counts) same))
judged_done (Err e) s mid new read ts told same memory = λ known. absurd (known memory)

module _ (ps : List Prefix) (end : ℕ) (items groups : List Item) (front : groups ≡ prefix_groups items)
    (s : Counts) where
  all_front : walked s (prefixes_tests ps groups) ≡ walked s (prefixes_tests ps (prefix_groups items))
  all_front = ap (λ l. walked s (prefixes_tests ps l)) front

  pub document_stops : (e : Refusal) → walked s (prefixes_tests ps groups) ≡ Err e
      → walked s (form_tests ps end items) ≡ Err e
  document_stops e first =
      stops s (prefixes_tests ps (prefix_groups items))
      (ontology_tests (document_prefixes ps items) end (behind_prefixes items)) e (sym all_front ∙ first)

  pub document_goes : {X : Type 0} (r : Result X Refusal) (behind : List Item) (qs : List Prefix) (new : Counts)
      → behind ≡ behind_prefixes items → qs ≡ prefixes_behind ps groups → walked s (prefixes_tests ps groups) ≡ Ok s
      → Judged r s (ontology_tests qs end behind) new → Judged r s (form_tests ps end items) new
  document_goes r behind qs new back declared first rest =
      let tests : ontology_tests qs end behind
      ≡ ontology_tests (document_prefixes ps items) end (behind_prefixes items) =
      λ i. ontology_tests ((declared ∙ ap (prefixes_behind ps) front) i) end (back i) in
      goes_judged r s s new (prefixes_tests ps (prefix_groups items))
      (ontology_tests (document_prefixes ps items) end (behind_prefixes items)) (sym all_front ∙ first)
      (subst (λ ts. Judged r s ts new) tests rest)

pub alone_tests_are : (tests : Item → List Test) (end : ℕ) (items rest : List Item) (i : Item) → i ≡ get_or items 0 i
    → rest ≡ drop 1 items → nat_eq (length items) 0 ≡ false
    → tests i ++ nothing_tests rest ≡ alone_tests tests end items
alone_tests_are tests end [] rest i at behind some = let clash : true ≡ false = some in absurd (cc clash)
alone_tests_are tests end (j ∷ js) rest i at behind some = λ k. tests (at k) ++ nothing_tests (behind k)
