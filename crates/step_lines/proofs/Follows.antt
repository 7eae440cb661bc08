-- What follows from grounds that hold by facts of few marks.
use Rattle.std.proofs.Common.{◌≡◌, ℕ, ◌<◌, ◌&&◌, eqb, Bool, true, List, [], ◌∷◌, length, ap, ◌∙◌, sym, inl, inr}
use Rattle.std.specs.List.{list_any, list_all}
use Rattle.std.proofs.lemmas.Bool.{and_parts, and_from, or_cases, or_left, or_right, eqb-true}
use Rattle.shq_terms.specs.Concept.{Concept, top}
use Rattle.lane_sieve.specs.Sets.{NumberSet}
use Rattle.calculus_specs.specs.Normal.{is_top}
use Rattle.calculus_specs.specs.Same.{is_same}
use Rattle.calculus_specs.specs.Shape.{Shape, shape_of, IsTable}
use Rattle.calculus_specs.specs.Shape.Shape.{top as top_shape}
use Rattle.calculus_specs.specs.Tree.{tree_of, trees_of, tree_over}
use Rattle.calculus_specs.proofs.Same.{eq_to_same}
use Rattle.calculus_specs.proofs.Unique.{tree_of_shape}
use Rattle.calculus_specs.specs.declared.facts.Fact.{Fact}
use Rattle.calculus_specs.specs.declared.facts.Fact.TheVariants.{Has, Edge, Apart, Same}
use Rattle.calculus_specs.specs.Joins.{rep}
use Rattle.calculus_specs.specs.State.{gives_concept, is_given, has, has_tree, has_edge, are_apart}
use Rattle.calculus_specs.specs.Reading.{read_facts}
use Rattle.calculus_specs.proofs.Reading.{reps-read, keeps_state}
use Rattle.tableau_specs.proofs.Listed.{listed}
use Rattle.tableau_specs.specs.Steps.{SearchContext}
use Rattle.search_trace.specs.Premises.{has_concept, has_edge_below, is_apart, is_one, holds}
use Rattle.search_trace.specs.Noted.{within}
use Rattle.search_trace.specs.Trail.{MarkedFact, trail_within}
use Rattle.search_trace.specs.Grounded.{is_known_within, AreGrounded}
use Rattle.search_trace.proofs.Grounded.{given_is_known, edge_is_known}
use Rattle.step_finders.proofs.Edges.{edge_of_kind}

pub all_cons : {X : Type 0} (p : X → Bool) (x : X) (xs : List X) → p x ≡ true → list_all p xs ≡ true
    → list_all p (x ∷ xs) ≡ true
all_cons p x xs h t = and_from (p x) (list_all p xs) h t

pub all_first : {X : Type 0} (p : X → Bool) (x : X) (xs : List X) → list_all p (x ∷ xs) ≡ true → p x ≡ true
all_first p x xs h = (and_parts (p x) (list_all p xs) h).0

pub all_rest : {X : Type 0} (p : X → Bool) (x : X) (xs : List X) → list_all p (x ∷ xs) ≡ true → list_all p xs ≡ true
all_rest p x xs h = (and_parts (p x) (list_all p xs) h).1

-- ---- numbers other than that of top

pub not_zero : (table : List Shape) → IsTable table → (c : ℕ) (s : Shape) → shape_of table c ≡ s → ¬ (s ≡ top_shape)
    → ¬ (c ≡ 0)
not_zero table good c s sh ne e = ne (sym sh ∙ ap (shape_of table) e ∙ good.begins_with_top)

pub is_listed : (table : List Shape) (c : ℕ) (s : Shape) → shape_of table c ≡ s → ¬ (s ≡ top_shape) → c < length table
is_listed table c s sh ne = listed table c (λ e. ne (sym sh ∙ e))

pub tree_is : (table : List Shape) → IsTable table → (c : ℕ) (s : Shape) → shape_of table c ≡ s → ¬ (s ≡ top_shape)
    → tree_of table c ≡ tree_over (trees_of table) s
tree_is table good c s sh ne =
    (let lt = is_listed table c s sh ne in
    tree_of_shape table c lt (good.parts_below c lt) ∙ ap (tree_over (trees_of table)) sh)

-- ---- concepts

given_reads : (table : List Shape) (m : ℕ → ℕ) (at c : ℕ) (fs : List (Fact ℕ))
    → list_any (gives_concept (λ d. eqb d c) m at) fs ≡ true
    → list_any (gives_concept (λ t. is_same t (tree_of table c)) m at) (read_facts (tree_of table) fs) ≡ true
given_reads table m at c [] h = cc
given_reads table m at c (Has y d ∷ fs) h =
    let p : Bool = eqb (m y) at && is_same (tree_of table d) (tree_of table c) in
    let rest : Bool =
    list_any (gives_concept (λ t. is_same t (tree_of table c)) m at) (read_facts (tree_of table) fs) in
    elim (or_cases (eqb (m y) at && eqb d c) (list_any (gives_concept (λ k. eqb k c) m at) fs) h) [
      | inl here ↦
          let t = and_parts (eqb (m y) at) (eqb d c) here in
          or_left p rest
          (and_from (eqb (m y) at) (is_same (tree_of table d) (tree_of table c)) t.0
          (eq_to_same (tree_of table d) (tree_of table c) (ap (tree_of table) (eqb-true d c t.1))))
      | inr later ↦ or_right p rest (given_reads table m at c fs later)
    ]
given_reads table m at c (Edge r y z ∷ fs) h = given_reads table m at c fs h
given_reads table m at c (Apart y z ∷ fs) h = given_reads table m at c fs h
given_reads table m at c (Same y z ∷ fs) h = given_reads table m at c fs h

-- what a node has it has as a tree
has_reads : (table : List Shape) → IsTable table → (fs : List (Fact ℕ)) (x c : ℕ) → has fs x c ≡ true
    → has_tree (read_facts (tree_of table) fs) x (tree_of table c) ≡ true
has_reads table good fs x c h =
    let given : Bool = is_given (λ t. is_same t (tree_of table c)) (read_facts (tree_of table) fs) x in
    elim (or_cases (eqb c 0) (is_given (λ d. eqb d c) fs x) h) [
      | inl zero' ↦
          let tree : tree_of table c ≡ top =
          ap (tree_of table) (eqb-true c 0 zero') ∙ tree_of_shape table 0 good.has_top (good.parts_below 0 good.has_top)
          ∙ ap (tree_over (trees_of table)) good.begins_with_top in
          or_left (is_top (tree_of table c)) given (ap is_top tree)
      | inr there ↦
          or_right (is_top (tree_of table c)) given
          (ap (λ (m : ℕ → ℕ). list_any (gives_concept (λ t. is_same t (tree_of table c)) m (m x))
          (read_facts (tree_of table) fs))
          (reps-read ℕ Concept (tree_of table) fs)
          ∙ given_reads table (rep fs) (rep fs x) c fs there)
    ]

module _ (w : SearchContext) (good : IsTable w.table) (u : NumberSet) (ms : List MarkedFact) where
  pub concept_follows : (x c : ℕ) → has (within u ms) x c ≡ true
      → holds w.theory (trail_within w.first w.table u ms) (has_concept x (tree_of w.table c)) ≡ true
  concept_follows x c h = has_reads w.table good (within u ms) x c h

  pub edge_follows : (r s x y : ℕ) → w.theory.below r s ≡ true → has_edge (within u ms) (λ q. eqb q r) x y ≡ true
      → holds w.theory (trail_within w.first w.table u ms) (has_edge_below s x y) ≡ true
  edge_follows r s x y below h =
      (keeps_state ℕ Concept (tree_of w.table) (within u ms)).edges (λ q. w.theory.below q s) x y
      ∙ edge_of_kind (within u ms) (λ q. w.theory.below q s) r x y below h

  pub apart_follows : (x y : ℕ) → are_apart (within u ms) x y ≡ true
      → holds w.theory (trail_within w.first w.table u ms) (is_apart x y) ≡ true
  apart_follows x y h = (keeps_state ℕ Concept (tree_of w.table) (within u ms)).aparts x y ∙ h

  pub one_follows : (x y : ℕ) → eqb (rep (within u ms) x) (rep (within u ms) y) ≡ true
      → holds w.theory (trail_within w.first w.table u ms) (is_one x y) ≡ true
  one_follows x y h = ap (λ (m : ℕ → ℕ). eqb (m x) (m y)) (reps-read ℕ Concept (tree_of w.table) (within u ms)) ∙ h

-- ---- nodes

module _ (first : ℕ) (u : NumberSet) (ms : List MarkedFact) (grounded : AreGrounded first ms) where
  pub node_of_has : (x c : ℕ) → ¬ (c ≡ 0) → has (within u ms) x c ≡ true → is_known_within first u ms x ≡ true
  node_of_has x c ne h = elim (or_cases (eqb c 0) (is_given (λ d. eqb d c) (within u ms) x) h) [
    | inl zero' ↦ absurd (ne (eqb-true c 0 zero'))
    | inr there ↦ given_is_known first u ms grounded (λ d. eqb d c) x there
  ]

  pub begin_of_edge : (r x y : ℕ) → has_edge (within u ms) (λ q. eqb q r) x y ≡ true
      → is_known_within first u ms x ≡ true
  begin_of_edge r x y h = (edge_is_known first u ms grounded (λ q. eqb q r) x y h).0

  pub end_of_edge : (r x y : ℕ) → has_edge (within u ms) (λ q. eqb q r) x y ≡ true → is_known_within first u ms y ≡ true
  end_of_edge r x y h = (edge_is_known first u ms grounded (λ q. eqb q r) x y h).1
