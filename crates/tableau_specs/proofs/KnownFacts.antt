-- What facts make known to rule lines is what they say.
use Rattle.std.proofs.Common.{◌≡◌, ℕ, zero, suc, ◌+◌, ◌<◌, ◌≤◌, ◌&&◌, eqb, Bool, true, false, List, [], ◌∷◌, length}
use Rattle.std.proofs.Common.{Option, Some, refl, ap, ◌∙◌, sym, arith, inl, inr}
use Rattle.std.specs.List.{list_any, list_all, range_with_len, All}
use Rattle.std.proofs.lemmas.List.Elements.{All-head, All-tail}
use Rattle.std.proofs.lemmas.Bool.{lt-ltb, cases_Bool}
use Rattle.std.proofs.lemmas.Bool.Decides.{nat_tests}
use Rattle.calculus_specs.specs.Concept.{Concept}
use Rattle.calculus_specs.specs.Shape.{Shape, shape_of}
use Rattle.calculus_specs.specs.Shape.Shape.{top as top_shape}
use Rattle.calculus_specs.specs.Tree.{tree_of, trees_of, tree_over}
use Rattle.calculus_specs.proofs.Unique.{tree_of_shape}
use Rattle.calculus_specs.specs.declared.facts.Fact.{Fact}
use Rattle.calculus_specs.specs.State.{node_count_from, has, has_tree, has_edge, are_apart, all_apart}
use Rattle.calculus_specs.proofs.Reading.{keeps_state, has-read}
use Rattle.calculus_specs.specs.Rules.{Question, Known, knows, when, at_concept, are_fillers}
use Rattle.tableau_specs.specs.Steps.{SearchContext, below_of}
use Rattle.tableau_specs.proofs.Listed.{listed}
use Rattle.tableau_specs.specs.Lines.{known_by, concept_in}
use Rattle.tableau_specs.specs.LineLaws.{IsOver}
use Rattle.tableau_specs.proofs.PlainClash.{FilledSuccessor}

past : (x a : ℕ) → a ≤ x → eqb a x ≡ false → a + 1 ≤ x
past x a le miss = grind (arith, nat_tests)

pub known_in : (x a n : ℕ) → a ≤ x → x < a + n → list_any (λ y. eqb y x) (range_with_len a n) ≡ true
known_in x a zero le lt = absurd (omega arith)
known_in x a (suc n) le lt = elim (cases_Bool (eqb a x)) [
  | inl hit ↦ rw hit refl
  | inr miss ↦ rw miss (known_in x (a + 1) n (past x a le miss) (omega arith))
]

module _ (w : SearchContext) (q : Question) (fs : List (Fact ℕ)) (over : IsOver w fs) where
  abbrev pub k : Known
  k = known_by w.first w.table fs

  pub is_known : (x : ℕ) → x < node_count_from w.first fs → knows k x ≡ true
  is_known x lt = known_in x 0 (node_count_from w.first fs) (omega arith) (omega arith)

  pub reads : (c : ℕ) (s : Shape) → shape_of w.table c ≡ s → ¬ (s ≡ top_shape)
      → tree_of w.table c ≡ tree_over (trees_of w.table) s
  reads c s sh ne =
      let lt = listed w.table c (λ e. ne (sym sh ∙ e)) in
      tree_of_shape w.table c lt (over.is_table.parts_below c lt) ∙ ap (tree_over (trees_of w.table)) sh

  pub holds : (x c : ℕ) → c < length w.table → has fs x c ≡ true → has_tree k.facts x (tree_of w.table c) ≡ true
  holds x c lt h = has-read w.table over.is_table fs over.listed x c lt ∙ h

  pub edge_reads : (roles : ℕ → Bool) (x y : ℕ) → has_edge k.facts roles x y ≡ has_edge fs roles x y
  edge_reads roles x y = (keeps_state ℕ Concept (tree_of w.table) fs).edges roles x y

  pub concept_reads : (c : ℕ) → c < length w.table → concept_in w.table c ≡ Some (tree_of w.table c)
  concept_reads c lt = rw (lt-ltb c (length w.table) lt) refl

  -- a line whose concept has a shape other than top, at a node that has it
  pub at_shape : (x c : ℕ) (s : Shape) (answer : Concept → Option (List Known)) → x < node_count_from w.first fs
      → has fs x c ≡ true → shape_of w.table c ≡ s → ¬ (s ≡ top_shape)
      → at_concept k x (concept_in w.table c) answer ≡ answer (tree_over (trees_of w.table) s)
  at_shape x c s answer lt h sh ne =
      let mt = listed w.table c (λ e. ne (sym sh ∙ e)) in
      ap (λ (o : Option Concept). at_concept k x o answer) (concept_reads c mt)
      ∙ ap (λ (b : Bool). when (b && has_tree k.facts x (tree_of w.table c)) (answer (tree_of w.table c)))
      (is_known x lt)
      ∙ ap (λ (b : Bool). when b (answer (tree_of w.table c))) (holds x c mt h)
      ∙ ap answer (reads c s sh ne)

  -- ---- successors with the filler, and nodes that are apart

  pub fillers_read : (x s e : ℕ) (ys : List ℕ) → e < length w.table
      → All (FilledSuccessor w.first (below_of w) fs x s e) ys
      → are_fillers w.theory k x s (tree_of w.table e) ys ≡ true
  fillers_read x s e [] lt all = refl
  fillers_read x s e (y ∷ ys) lt all =
      let f = All-head (FilledSuccessor w.first (below_of w) fs x s e) y ys all in
      rw (is_known y f.is_node, edge_reads (λ r. below_of w r s) x y ∙ f.edge, holds y e lt f.holds)
      (fillers_read x s e ys lt (All-tail (FilledSuccessor w.first (below_of w) fs x s e) y ys all))

  each_apart_reads : (y : ℕ) (ys : List ℕ) → list_all (are_apart k.facts y) ys ≡ list_all (are_apart fs y) ys
  each_apart_reads y [] = refl
  each_apart_reads y (z ∷ zs) =
      ap (λ (b : Bool). b && list_all (are_apart k.facts y) zs)
      ((keeps_state ℕ Concept (tree_of w.table) fs).aparts y z)
      ∙ ap (λ (b : Bool). are_apart fs y z && b) (each_apart_reads y zs)

  pub all_apart_reads : (ys : List ℕ) → all_apart k.facts ys ≡ all_apart fs ys
  all_apart_reads [] = refl
  all_apart_reads (y ∷ ys) =
      ap (λ (b : Bool). b && all_apart k.facts ys) (each_apart_reads y ys)
      ∙ ap (λ (b : Bool). list_all (are_apart fs y) ys && b) (all_apart_reads ys)
