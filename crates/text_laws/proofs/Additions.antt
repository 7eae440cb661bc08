-- Axioms that are put into an ontology, and names that are cut again.
use Rattle.std.proofs.Common.{◌≡◌, ℕ, ◌+◌, ◌≤◌, Bool, true, List, [], ◌∷◌, ◌++◌, length, take, Option, Some, None, Ok}
use Rattle.std.proofs.Common.{refl, ap, sym, ◌∙◌, subst, arith, length-append}
use Rattle.std.specs.Prelude.{min}
use Rattle.std.specs.List.{list_all}
use Rattle.std.proofs.lemmas.Bool.{and_from}
use Rattle.std.proofs.lemmas.List.{length-take-le}
use Rattle.std.proofs.lemmas.List.Folds.{list_all-append}
use Rattle.shq_terms.specs.Listed.{Listed}
use Rattle.shq_terms.specs.Uses.{all_use_listed}
use Rattle.shq_terms.specs.declared.axioms.Axiom.{Axiom}
use Rattle.shq_terms.specs.declared.axioms.Numbered.{Numbered}
use Rattle.ontology_limits.specs.Parts.{axiom_has_counts_within}
use Rattle.ontology_limits.specs.Limits.{has_enough_items, part_count, IsOntologyInLimit}
use Rattle.ofn_tree.specs.Lexemes.{end_line}
use Rattle.ofn_tree.specs.Items.{Item, name_item, iri_item, literal_item, sign_item, group_item, Items, items_of}
use Rattle.ofn_tree.specs.Items.{nesting, nesting_all}
use Rattle.ofn_expressions.specs.Counts.{Counts}
use Rattle.ofn_expressions.specs.Walk.{Test, shape, prefix, clash, outside, numbered, parts, nodes, class, role}
use Rattle.ofn_expressions.specs.Walk.{individual, number, simple, holds, counts_after, after_all, walked}
use Rattle.ofn_expressions.specs.Names.{Prefix}
use Rattle.ofn_expressions.specs.Constructs.{excluded_axiom}
use Rattle.ofn_expressions.specs.declared.construct.Construct.{Construct}
use Rattle.ofn_expressions.specs.Classes.{Keeps}
use Rattle.ofn_expressions.proofs.Kept.{keeps_all}
use Rattle.ofn_reader.specs.Keywords.{axiom_keyword, axiom_else}
use Rattle.ofn_reader.specs.Groups.{without_annotations}
use Rattle.ofn_reader.specs.Axioms.{axiom_tests, axiom_in, numbered_at}
use Rattle.ofn_reader.specs.Held.{expression_count, parts_held, counts_of}
use Rattle.ofn_reader.specs.Queries.{nothing_tests, query_tests, query_start, first_line}
use Rattle.ofn_reader.specs.Additions.{added_tests, added_form_tests, group_axiom, added_axiom, first_axiom}
use Rattle.ofn_reader.specs.Additions.{all_count_simple, with_added, addition_tests, IsAddition, added_to}
use Rattle.text_laws.specs.LimitLaws.{AdditionsStayInLimit, QueriesAreCutAgain, CutsStayInLimit, DocumentsAreCounted}
use Rattle.text_laws.specs.LimitLaws.{AdditionsAreCounted}
use Rattle.text_laws.proofs.Whole.{limits_from_whole, part_total, held_total, expression_total}
use Rattle.text_laws.proofs.Checks.{true_le}
use Rattle.text_laws.proofs.GoodTokens.{IsGoodItem, AreGoodItems}
use Rattle.text_laws.proofs.Counting.{both, keeps_before}
use Rattle.text_laws.proofs.Words.{keyword_words}
use Rattle.text_laws.proofs.ReadAxioms.{AreSaid, axiom_read, uses_append}
use Rattle.text_laws.proofs.CanWrite.{document_counted}
use Rattle.text_laws.proofs.Queries.{nothing_after}
use Rattle.text_laws.proofs.InLimit.{walked_keeps_that, stand_first, still_in_limit, items_good, form_holds}

-- ---- counts that are not above their limits

record CountsAreFew (s : Counts) : Type 0 where
  parts : s.parts ≤ 500000
  nodes : s.nodes ≤ 262144

few_step : (s : Counts) (t : Test) → holds s t ≡ true → CountsAreFew s → CountsAreFew (counts_after s t)
few_step s (shape n fits) h few = few
few_step s (prefix n declared) h few = few
few_step s (clash n agrees) h few = few
few_step s (outside n c) h few = few
few_step s (numbered n) h few = record { parts = few.parts; nodes = few.nodes }
few_step s (parts n k) h few = record { parts = true_le (s.parts + k) 500000 h; nodes = few.nodes }
few_step s (nodes n k) h few = record { parts = few.parts; nodes = true_le (s.nodes + k) 262144 h }
few_step s (class n w) h few = record { parts = few.parts; nodes = few.nodes }
few_step s (role n w) h few = record { parts = few.parts; nodes = few.nodes }
few_step s (individual n w) h few = record { parts = few.parts; nodes = few.nodes }
few_step s (number n k) h few = few
few_step s (simple n fits) h few = few

axioms_step : (s : Counts) (t : Test) → holds s t ≡ true → s.axioms ≤ 20000 → (counts_after s t).axioms ≤ 20000
axioms_step s (shape n fits) h few = few
axioms_step s (prefix n declared) h few = few
axioms_step s (clash n agrees) h few = few
axioms_step s (outside n c) h few = few
axioms_step s (numbered n) h few = true_le (s.axioms + 1) 20000 h
axioms_step s (parts n k) h few = few
axioms_step s (nodes n k) h few = few
axioms_step s (class n w) h few = few
axioms_step s (role n w) h few = few
axioms_step s (individual n w) h few = few
axioms_step s (number n k) h few = few
axioms_step s (simple n fits) h few = few

-- ---- an axiom alone is read as in a document

no_axiom : (a : Axiom) → [] ≡ a ∷ [] → ⊥
no_axiom a is = cc is

module _ (ps : List Prefix) (f : Counts) where
  -- what the tests of a group that is put in say of it as a group in a document
  abbrev ReadsAlike : List ℕ → Type 0
  ReadsAlike w =
      (n : ℕ) (all : Items) (a : Axiom) → added_axiom ps f (group_item (Some w) all n) ≡ a ∷ [] → (s new : Counts)
      → walked s (added_tests ps (group_item (Some w) all n)) ≡ Ok new
      → (walked s (axiom_tests ps (group_item (Some w) all n)) ≡ Ok new)
      × (axiom_in ps f (group_item (Some w) all n) ≡ numbered_at n (a ∷ []))

  other_alike : (w : List ℕ) → axiom_keyword w ≡ axiom_else (excluded_axiom w) → ReadsAlike w
  other_alike w same n all a says s new h =
      absurd (by (excluded_axiom w) (sym (ap (λ k. group_axiom ps f k (without_annotations all)) same) ∙ says))
    where
      by : (e : Option Construct) → group_axiom ps f (axiom_else e) (without_annotations all) ≡ a ∷ [] → ⊥
      by (Some c) g = no_axiom a g
      by None g = no_axiom a g

  group_alike : (w : List ℕ) → ReadsAlike w
  unfolding axiom_keyword
  group_alike =
      keyword_words ReadsAlike
      (λ n all a says s new h. (h, ap (numbered_at n) says))
      (λ n all a says s new h. (h, ap (numbered_at n) says))
      (λ n all a says s new h. (h, ap (numbered_at n) says))
      (λ n all a says s new h. (h, ap (numbered_at n) says))
      (λ n all a says s new h. (h, ap (numbered_at n) says))
      (λ n all a says s new h. (h, ap (numbered_at n) says))
      (λ n all a says s new h. (h, ap (numbered_at n) says))
      (λ n all a says s new h. (h, ap (numbered_at n) says))
      (λ n all a says s new h. (h, ap (numbered_at n) says))
      (λ n all a says s new h. (h, ap (numbered_at n) says))
      (λ n all a says s new h. (h, ap (numbered_at n) says))
      (λ n all a says s new h. (h, ap (numbered_at n) says))
      (λ n all a says s new h. (h, ap (numbered_at n) says))
      (λ n all a says s new h. (h, ap (numbered_at n) says))
      (λ n all a says s new h. absurd (no_axiom a says))
      (λ n all a says s new h. absurd (no_axiom a says))
      (λ n all a says s new h. absurd (no_axiom a says))
      (λ n all a says s new h. absurd (no_axiom a says))
      (λ n all a says s new h. absurd (no_axiom a says))
      (λ n all a says s new h. absurd (no_axiom a says))
      other_alike

  -- the line of an axiom is not looked at
  on_any_line : (s new : Counts) (n : ℕ) (a : Axiom) → AreSaid ps f 63 s new (numbered_at n (a ∷ []))
      → AreSaid ps f 63 s new (numbered_at 1 (a ∷ []))
  on_any_line s new n a said =
      record { rises = said.rises; listed = said.listed; whole = said.whole; nested = said.nested }

  item_said : (i : Item) → IsGoodItem i → nesting i ≤ 64 → (a : Axiom) → added_axiom ps f i ≡ a ∷ [] → (s new : Counts)
      → walked s (added_tests ps i) ≡ Ok new → Keeps new f → AreSaid ps f 63 s new (numbered_at 1 (a ∷ []))
  item_said (group_item (Some w) is n) good deep a says s new h keeps =
      let r = group_alike w n is a says s new h in
      on_any_line s new n a
      (subst (λ l. AreSaid ps f 63 s new l) r.1
      (axiom_read ps f 63 (group_item (Some w) is n) good deep s new r.0 keeps))
  item_said (group_item None is n) good deep a says s new h keeps = absurd (no_axiom a says)
  item_said (name_item w n) good deep a says s new h keeps = absurd (no_axiom a says)
  item_said (iri_item w n) good deep a says s new h keeps = absurd (no_axiom a says)
  item_said (literal_item n) good deep a says s new h keeps = absurd (no_axiom a says)
  item_said (sign_item k n) good deep a says s new h keeps = absurd (no_axiom a says)

  first_said : (end : ℕ) (is : List Item) → AreGoodItems (items_of is) → nesting_all (items_of is) ≤ 64 → (a : Axiom)
      → first_axiom ps f is ≡ a ∷ [] → (s new : Counts) → walked s (added_form_tests ps end is) ≡ Ok new → Keeps new f
      → AreSaid ps f 63 s new (numbered_at 1 (a ∷ []))
  first_said end [] good deep a says s new h keeps = absurd (no_axiom a says)
  first_said end (i ∷ is) good deep a says s new h keeps =
      let b = both s (added_tests ps i) (nothing_tests is) new h in
      subst (λ (t : Counts). AreSaid ps f 63 s t (numbered_at 1 (a ∷ []))) (nothing_after is b.mid new b.second)
      (item_said i good.0 (omega (arith, deep)) a says s b.mid b.first
      (keeps_before s b.mid new f (nothing_tests is) b.second keeps))

-- ---- on an ontology

all_more : (p : Numbered → Bool) (xs ys : List Numbered) → list_all p xs ≡ true → list_all p ys ≡ true
    → list_all p (xs ++ ys) ≡ true
all_more p xs ys old new = list_all-append p xs ys ∙ and_from (list_all p xs) (list_all p ys) old new

pub parts_more : (xs ys : List Numbered) → parts_held (xs ++ ys) ≡ parts_held xs + parts_held ys
parts_more [] ys = omega arith
parts_more (x ∷ xs) ys = omega (arith, parts_more xs ys)

pub expressions_more : (xs ys : List Numbered) → expression_count (xs ++ ys) ≡ expression_count xs + expression_count ys
expressions_more [] ys = omega arith
expressions_more (x ∷ xs) ys = omega (arith, expressions_more xs ys)

pub parts_are : (xs : List Numbered) → parts_held xs ≡ part_count xs
parts_are xs = sym (held_total xs) ∙ part_total xs

module _ (ps : List Prefix) (o : Listed) (text : List ℕ) (behind : Counts) (a : Axiom)
    (x : IsAddition ps o.axioms (counts_of o) text behind a) where
  abbrev tests : List Test
  tests = addition_tests ps o.axioms (counts_of o) (end_line text) x.items

  split : (walked (counts_of o) (added_form_tests ps (end_line text) x.items) ≡ Ok behind)
      × (all_count_simple (with_added o.axioms (a ∷ [])) ≡ true)
  split =
      let form : List Test = added_form_tests ps (end_line text) x.items in
      let h =
      form_holds (counts_of o) form (first_line (end_line text) x.items)
      (all_count_simple (with_added o.axioms (first_axiom ps (after_all (counts_of o) form) x.items))) behind x.holds in
      let said_there : first_axiom ps (after_all (counts_of o) form) x.items ≡ a ∷ [] =
      ap (λ (s : Counts). first_axiom ps s x.items) h.counts_are ∙ x.says in
      (h.form_holds, ap (λ (l : List Axiom). all_count_simple (with_added o.axioms l)) (sym said_there) ∙ h.simple_are)

  said : AreSaid ps behind 63 (counts_of o) behind (numbered_at 1 (a ∷ []))
  said =
      first_said ps behind (end_line text) x.items (items_good text x.items x.end x.made) x.made.tree.nested a x.says
      (counts_of o) behind split.0 (keeps_all behind)

  few : CountsAreFew behind
  few = walked_keeps_that CountsAreFew few_step (counts_of o) tests behind x.holds
      (record { parts = omega arith; nodes = omega arith })

  few_axioms : length o.axioms ≤ 20000 → behind.axioms ≤ 20000
  few_axioms within = walked_keeps_that (λ s. s.axioms ≤ 20000) axioms_step (counts_of o) tests behind x.holds within

  addition_counted : behind ≡ counts_of (added_to o behind a)
  addition_counted =
      let number : behind.axioms ≡ length (o.axioms ++ numbered_at 1 (a ∷ [])) =
      omega (arith, said.rises.axioms, length-append o.axioms (numbered_at 1 (a ∷ []))) in
      let parts_now : behind.parts ≡ min (parts_held (o.axioms ++ numbered_at 1 (a ∷ []))) 500000 =
      omega (
        arith,
        few.parts,
        said.rises.parts,
        parts_more o.axioms (numbered_at 1 (a ∷ [])),
        held_total (numbered_at 1 (a ∷ [])),
      ) in
      let nodes_now : behind.nodes ≡ min (expression_count (o.axioms ++ numbered_at 1 (a ∷ []))) 262144 =
      omega (
        arith,
        few.nodes,
        said.rises.nodes,
        expressions_more o.axioms (numbered_at 1 (a ∷ [])),
        expression_total (numbered_at 1 (a ∷ [])),
      ) in
      λ i. record {
        axioms = number i;
        parts = parts_now i;
        nodes = nodes_now i;
        classes = behind.classes;
        roles = behind.roles;
        individuals = behind.individuals;
      }

  addition_stays : IsOntologyInLimit o → IsOntologyInLimit (added_to o behind a)
  addition_stays within =
      let names = still_in_limit o (counts_of o) tests behind within refl refl refl x.holds in
      let limits = limits_from_whole (numbered_at 1 (a ∷ [])) said.whole in
      record {
        listed =
            uses_append (length behind.classes) (length behind.roles) (length behind.individuals) o.axioms
            (numbered_at 1 (a ∷ [])) names.listed said.listed;
        items =
            all_more (λ (n : Numbered). has_enough_items n.axiom) o.axioms (numbered_at 1 (a ∷ [])) within.items
            limits.items;
        counts =
            all_more (λ (n : Numbered). axiom_has_counts_within 100 n.axiom) o.axioms (numbered_at 1 (a ∷ []))
            within.counts limits.counts;
        simple = split.1;
        few_axioms = omega
            (arith, few_axioms within.few_axioms, said.rises.axioms, length-append o.axioms (numbered_at 1 (a ∷ [])));
        few_classes = names.few_classes;
        few_roles = names.few_roles;
        few_individuals = names.few_individuals;
        few_parts =
            omega (
              arith,
              few.parts,
              said.rises.parts,
              within.few_parts,
              parts_are o.axioms,
              parts_are (o.axioms ++ numbered_at 1 (a ∷ [])),
              parts_more o.axioms (numbered_at 1 (a ∷ [])),
              held_total (numbered_at 1 (a ∷ [])),
            );
      }

-- ---- the laws

pub additions_stay : AdditionsStayInLimit
additions_stay ps o text behind a within x = addition_stays ps o text behind a x within

pub additions_counted : AdditionsAreCounted
additions_counted ps o text behind a x = addition_counted ps o text behind a x

pub documents_counted : DocumentsAreCounted
documents_counted text o kept end d = document_counted text o kept end d

pub queries_cut_again : QueriesAreCutAgain
queries_cut_again ps o n query after q x =
    let first =
    stand_first (query_start o n) (query_tests ps o.axioms (query_start o n) (end_line query) x.items) after x.holds in
    λ i. record {
      axioms = o.axioms;
      classes = first.classes i;
      roles = first.roles i;
      individuals = first.individuals i;
    }

pub cuts_stay : CutsStayInLimit
cuts_stay o c r n within few_classes few_roles few_individuals unused =
    let classes : length (take c o.classes) ≡ c = length-take-le c o.classes few_classes in
    let roles : length (take r o.roles) ≡ r = length-take-le r o.roles few_roles in
    let individuals : length (take n o.individuals) ≡ n = length-take-le n o.individuals few_individuals in
    record {
      listed = (λ i. all_use_listed (classes i) (roles i) (individuals i) o.axioms) ∙ unused;
      items = within.items;
      counts = within.counts;
      simple = within.simple;
      few_axioms = within.few_axioms;
      few_classes = omega (arith, within.few_classes, few_classes, classes);
      few_roles = omega (arith, within.few_roles, few_roles, roles);
      few_individuals = omega (arith, within.few_individuals, few_individuals, individuals);
      few_parts = within.few_parts;
    }
