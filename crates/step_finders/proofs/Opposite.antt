-- Complements of classes.
use Rattle.std.proofs.Common.{◌≡◌, ℕ, ◌<◌, true, List, length, ap, ◌∙◌, sym}
use Rattle.shq_nnf.specs.Concept.{Concept, complement as not_concept, name as name_concept}
use Rattle.calculus_specs.specs.Normal.{negated_form}
use Rattle.calculus_specs.specs.Shape.{Shape, shape_of, IsTable}
use Rattle.calculus_specs.specs.Shape.Shape.{top, bottom, name, not_name, intersection, union, some_of, all_of}
use Rattle.calculus_specs.specs.Shape.Shape.{at_least, at_most}
use Rattle.calculus_specs.specs.Tree.{tree_of, trees_of, tree_over, IsComplement}
use Rattle.calculus_specs.proofs.Unique.{tree_of_shape}
use Rattle.tableau_specs.proofs.Listed.{listed}
use Rattle.calculus_specs.specs.declared.facts.Fact.{Fact}
use Rattle.calculus_specs.specs.State.{has, node_count_from}
use Rattle.tableau_specs.specs.Steps.{SearchContext}
use Rattle.step_finders.specs.Choosing.{LacksComplement}
use Rattle.step_finders.specs.Clashing.{HasBoth, NoneByShape}

shape_of_not : (trees : List Concept) (sh : Shape) (a : ℕ) → tree_over trees sh ≡ not_concept (name_concept a)
    → sh ≡ not_name a
shape_of_not trees (not_name b) a h = let e : b ≡ a = cc in ap (λ (k : ℕ). not_name k) e
shape_of_not trees top a h = cc
shape_of_not trees bottom a h = cc
shape_of_not trees (name b) a h = cc
shape_of_not trees (intersection cs) a h = cc
shape_of_not trees (union cs) a h = cc
shape_of_not trees (some_of s e) a h = cc
shape_of_not trees (all_of s e) a h = cc
shape_of_not trees (at_least n s e) a h = cc
shape_of_not trees (at_most n s e) a h = cc

shape_of_name : (trees : List Concept) (sh : Shape) (a : ℕ) → tree_over trees sh ≡ name_concept a → sh ≡ name a
shape_of_name trees (name b) a h = let e : b ≡ a = cc in ap (λ (k : ℕ). name k) e
shape_of_name trees top a h = cc
shape_of_name trees bottom a h = cc
shape_of_name trees (not_name b) a h = cc
shape_of_name trees (intersection cs) a h = cc
shape_of_name trees (union cs) a h = cc
shape_of_name trees (some_of s e) a h = cc
shape_of_name trees (all_of s e) a h = cc
shape_of_name trees (at_least n s e) a h = cc
shape_of_name trees (at_most n s e) a h = cc

module _ (table : List Shape) (good : IsTable table) where
  tree_is : (c : ℕ) → c < length table → tree_of table c ≡ tree_over (trees_of table) (shape_of table c)
  tree_is c lt = tree_of_shape table c lt (good.parts_below c lt)

  name_listed : (c a : ℕ) → shape_of table c ≡ name a → c < length table
  name_listed c a sh = listed table c (λ k. (let m = sym sh ∙ k in cc))

  not_listed : (c a : ℕ) → shape_of table c ≡ not_name a → c < length table
  not_listed c a sh = listed table c (λ k. (let m = sym sh ∙ k in cc))

  tree_name : (c a : ℕ) → shape_of table c ≡ name a → tree_of table c ≡ name_concept a
  tree_name c a sh = tree_is c (name_listed c a sh) ∙ ap (tree_over (trees_of table)) sh

  tree_not : (c a : ℕ) → shape_of table c ≡ not_name a → tree_of table c ≡ not_concept (name_concept a)
  tree_not c a sh = tree_is c (not_listed c a sh) ∙ ap (tree_over (trees_of table)) sh

  -- the shape of a class
  pub name_of_tree : (c a : ℕ) → c < length table → tree_of table c ≡ name_concept a → shape_of table c ≡ name a
  name_of_tree c a lt e = shape_of_name (trees_of table) (shape_of table c) a (sym (tree_is c lt) ∙ e)

  -- the complement of a class, and of its complement
  pub not_of_name : (d c a : ℕ) → shape_of table d ≡ name a → IsComplement table d c → shape_of table c ≡ not_name a
  not_of_name d c a sh is =
      shape_of_not (trees_of table) (shape_of table c) a
      (sym (tree_is c is.listed) ∙ is.negates ∙ ap negated_form (tree_name d a sh))

  pub name_of_not : (d c a : ℕ) → shape_of table d ≡ not_name a → IsComplement table d c → shape_of table c ≡ name a
  name_of_not d c a sh is =
      shape_of_name (trees_of table) (shape_of table c) a
      (sym (tree_is c is.listed) ∙ is.negates ∙ ap negated_form (tree_not d a sh))

  pub complement_of_name : (d c a : ℕ) → shape_of table d ≡ name a → shape_of table c ≡ not_name a
      → IsComplement table d c
  complement_of_name d c a sh th =
      record { listed = not_listed c a th; negates = tree_not c a th ∙ ap negated_form (sym (tree_name d a sh)) }

  pub complement_of_not : (d c a : ℕ) → shape_of table d ≡ not_name a → shape_of table c ≡ name a
      → IsComplement table d c
  complement_of_not d c a sh th =
      record { listed = name_listed c a th; negates = tree_name c a th ∙ ap negated_form (sym (tree_not d a sh)) }

module _ (w : SearchContext) (good : IsTable w.table) (fs : List (Fact ℕ)) (x d a : ℕ) where
  pub both_by_name : (c : ℕ) → x < node_count_from w.first fs → has fs x d ≡ true → shape_of w.table d ≡ name a
      → IsComplement w.table d c → has fs x c ≡ true → HasBoth w fs x d c
  both_by_name c lt h sh is g = record {
    is_node = lt;
    class = a;
    holds = h;
    shape = sh;
    holds_other = g;
    shape_other = not_of_name w.table good d c a sh is;
  }

  pub both_by_not : (c : ℕ) → x < node_count_from w.first fs → has fs x d ≡ true → shape_of w.table d ≡ not_name a
      → IsComplement w.table d c → has fs x c ≡ true → HasBoth w fs x c d
  both_by_not c lt h sh is g = record {
    is_node = lt;
    class = a;
    holds = g;
    shape = name_of_not w.table good d c a sh is;
    holds_other = h;
    shape_other = sh;
  }

  pub none_by_name : shape_of w.table d ≡ name a → LacksComplement w fs x d → NoneByShape w fs x (name a)
  none_by_name sh lacks = λ c h th. (let k = lacks c (complement_of_name w.table good d c a sh th) in cc)

  pub none_by_not : shape_of w.table d ≡ not_name a → LacksComplement w fs x d → NoneByShape w fs x (not_name a)
  none_by_not sh lacks = λ c h th. (let k = lacks c (complement_of_not w.table good d c a sh th) in cc)
