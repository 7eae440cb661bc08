-- The rules of lines by the shapes of a table of concepts.
use Rattle.std.specs.Prelude.{◌≡◌, ℕ, ◌+◌, ◌^◌, ◌<◌, ◌≤◌, true, List, [], ◌∷◌, ◌++◌, map, length, Some}
use Rattle.calculus_specs.specs.Shape.{Shape, shape_of}
use Rattle.calculus_specs.specs.Shape.Shape.{name, not_name, intersection, union, some_of, all_of, at_least, at_most}
use Rattle.calculus_specs.specs.Tree.{tree_of}
use Rattle.calculus_specs.specs.Normal.{negated_form}
use Rattle.calculus_specs.specs.Rules.{Question}
use Rattle.calculus_specs.specs.Concept.{Concept}
use Rattle.calculus_specs.specs.declared.facts.Fact.{Fact}
use Rattle.calculus_specs.specs.declared.facts.Fact.TheVariants.{Has}
use Rattle.calculus_specs.specs.Line.{Line}
use Rattle.calculus_specs.specs.Line.Line.{and_line, or_line, all_line, carry_line, some_line, least_line, choose_line}
use Rattle.calculus_specs.specs.Line.Line.{clash_line, most_line, fact_line, differ_line}
use Rattle.tableau_specs.specs.Lines.{concept_in}
use Rattle.search_trace.specs.Premises.{Premise, is_node, has_concept, has_edge_below, is_apart, is_one, Added}
use Rattle.search_trace.specs.Premises.{more_facts, more_nodes, rule_of, filler_premises, apart_premises}

-- the line's rule asks this of a branch, and its children add that
abbrev pub IsRule : Question → List Shape → Line → List Premise → List Added → Type 0
IsRule q table line premises children =
    rule_of q (concept_in table) line ≡ Some (record { premises = premises; children = children })

-- what each rule line asks for and adds, by the shape of its concept
pub record RulesByShape (q : Question) (table : List Shape) : Type 0 where
  pub by_and : (x c : ℕ) (parts : List ℕ) → c < length table → shape_of table c ≡ intersection parts
      → IsRule q table (and_line x c) (is_node x ∷ has_concept x (tree_of table c) ∷ [])
      (more_facts (map (λ d. Has x (tree_of table d)) parts) ∷ [])
  pub by_or : (x c : ℕ) (parts : List ℕ) → c < length table → shape_of table c ≡ union parts
      → IsRule q table (or_line x c) (is_node x ∷ has_concept x (tree_of table c) ∷ [])
      (map (λ d. more_facts (Has x (tree_of table d) ∷ [])) parts)
  pub by_all : (x y c s e : ℕ) → c < length table → shape_of table c ≡ all_of s e
      → IsRule q table (all_line x y c)
      (is_node x ∷ has_concept x (tree_of table c) ∷ is_node y ∷ has_edge_below s x y ∷ [])
      (more_facts (Has y (tree_of table e) ∷ []) ∷ [])
  pub by_carry : (x y t c s e d : ℕ) → c < length table → shape_of table c ≡ all_of s e → d < length table
      → shape_of table d ≡ all_of t e
      → q.theory.is_transitive t ≡ true → q.theory.below t s ≡ true
      → IsRule q table (carry_line x y t c)
      (is_node x ∷ has_concept x (tree_of table c) ∷ is_node y ∷ has_edge_below t x y ∷ [])
      (more_facts (Has y (tree_of table d) ∷ []) ∷ [])
  pub by_some : (x y c s e : ℕ) → c < length table → shape_of table c ≡ some_of s e
      → IsRule q table (some_line x y c) (is_node x ∷ has_concept x (tree_of table c) ∷ [])
      (more_nodes x s (tree_of table e) y 1 ∷ [])
  pub by_least : (x y c n s e : ℕ) → c < length table → shape_of table c ≡ at_least n s e → y + n ≤ 2 ^ 32
      → IsRule q table (least_line x y c) (is_node x ∷ has_concept x (tree_of table c) ∷ [])
      (more_nodes x s (tree_of table e) y n ∷ [])
  pub by_choose : (y c : ℕ) → c < length table
      → IsRule q table (choose_line y c) (is_node y ∷ [])
      (more_facts (Has y (tree_of table c) ∷ []) ∷ more_facts (Has y (negated_form (tree_of table c)) ∷ []) ∷ [])
  pub by_clash : (x c d a : ℕ) → c < length table → shape_of table c ≡ name a → d < length table
      → shape_of table d ≡ not_name a
      → IsRule q table (clash_line x c)
      (is_node x ∷ has_concept x (tree_of table c) ∷ has_concept x (tree_of table d) ∷ []) []
  pub by_most : (x c n s e : ℕ) (ys : List ℕ) → c < length table → shape_of table c ≡ at_most n s e → length ys ≡ n + 1
      → IsRule q table (most_line x c ys)
      (is_node x ∷ has_concept x (tree_of table c) ∷ (filler_premises x s (tree_of table e) ys ++ apart_premises ys)) []
  pub by_fact : (a p : ℕ) (f : Fact Concept) → q.fact_of a p ≡ Some f
      → IsRule q table (fact_line a p) (is_node 0 ∷ []) (more_facts (f ∷ []) ∷ [])
  pub by_differ : (y z : ℕ)
      → IsRule q table (differ_line y z) (is_node y ∷ is_node z ∷ is_apart y z ∷ is_one y z ∷ []) []
