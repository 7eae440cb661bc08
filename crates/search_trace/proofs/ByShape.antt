-- The rules of lines by the shapes of a table of concepts.
use Rattle.std.proofs.Common.{◌≡◌, ℕ, ◌+◌, ◌^◌, ◌<◌, Bool, List, [], ◌∷◌, ◌++◌, map, length, get_or, Option, Some, refl}
use Rattle.std.proofs.Common.{ap, ◌∙◌, sym, eq-eqb}
use Rattle.std.proofs.lemmas.Bool.{lt-ltb, le-leb, and_from}
use Rattle.calculus_specs.specs.Concept.{Concept, top as top_tree, all_of as all_tree, parts_of, part_list}
use Rattle.calculus_specs.specs.Shape.{Shape, shape_of, IsTable}
use Rattle.calculus_specs.specs.Shape.Shape.{name, not_name, intersection, union, some_of, all_of, at_least, at_most}
use Rattle.calculus_specs.specs.Tree.{tree_of, trees_of, tree_over}
use Rattle.calculus_specs.proofs.Unique.{tree_of_shape}
use Rattle.calculus_specs.specs.declared.facts.Fact.{Fact}
use Rattle.calculus_specs.specs.declared.facts.Fact.TheVariants.{Has}
use Rattle.calculus_specs.specs.Rules.{Question, when}
use Rattle.tableau_specs.specs.Lines.{concept_in}
use Rattle.calculus_specs.proofs.Unique.{part_list-parts_of}
use Rattle.search_trace.specs.Premises.{Premise, is_node, has_concept, has_edge_below, Added, more_facts, more_nodes}
use Rattle.search_trace.specs.Premises.{Rule, and_rule, or_rule, all_rule, carry_rule, some_rule, least_rule}
use Rattle.search_trace.specs.Premises.{choose_rule, clash_rule, most_rule, fact_rule, filler_premises, apart_premises}
use Rattle.search_trace.specs.ByShape.{RulesByShape}

map_twice : {A B C : Type 0} → (g : B → C) (f : A → B) (xs : List A) → map g (map f xs) ≡ map (λ x. g (f x)) xs
map_twice g f [] = refl
map_twice g f (x ∷ xs) = ap (λ (ys : List _). g (f x) ∷ ys) (map_twice g f xs)

module _ (q : Question) (table : List Shape) (is : IsTable table) where
  listed : (c : ℕ) → c < length table → concept_in table c ≡ Some (tree_of table c)
  listed c lt = ap (λ (b : Bool). when b (Some (tree_of table c))) (lt-ltb c (length table) lt)

  reads : (c : ℕ) (s : Shape) → c < length table → shape_of table c ≡ s → tree_of table c ≡ tree_over (trees_of table) s
  reads c s lt e = tree_of_shape table c lt (is.parts_below c lt) ∙ ap (tree_over (trees_of table)) e

  -- a rule by the concept of a number
  at_shape : (f : Option Concept → Option Rule) (c : ℕ) (s : Shape) → c < length table → shape_of table c ≡ s
      → f (concept_in table c) ≡ f (Some (tree_over (trees_of table) s))
  at_shape f c s lt e = ap f (listed c lt) ∙ ap (λ (d : Concept). f (Some d)) (reads c s lt e)

  abbrev asking : ℕ → List Premise → List Added → Concept → Option Rule
  asking x more children d = Some (record { premises = is_node x ∷ has_concept x d ∷ more; children = children })

  t : ℕ → Concept
  t d = tree_of table d

  parts_read : (parts : List ℕ)
      → part_list (parts_of (map (λ p. get_or (trees_of table) p top_tree) parts)) ≡ map (tree_of table) parts
  parts_read parts = part_list-parts_of (map (λ p. get_or (trees_of table) p top_tree) parts)

  pub rules_by_shape : RulesByShape q table
  rules_by_shape = record {
    by_and = λ x c parts lt e.
        at_shape (and_rule x) c (intersection parts) lt e
        ∙ ap (λ (ds : List Concept). asking x [] (more_facts (map (Has x) ds) ∷ [])
        (tree_over (trees_of table) (intersection parts)))
        (parts_read parts)
        ∙ ap (λ (fs : List (Fact Concept)). asking x [] (more_facts fs ∷ [])
        (tree_over (trees_of table) (intersection parts)))
        (map_twice (Has x) (tree_of table) parts)
        ∙ ap (asking x [] (more_facts (map (λ d. Has x (tree_of table d)) parts) ∷ []))
        (sym (reads c (intersection parts) lt e));
    by_or = λ x c parts lt e.
        at_shape (or_rule x) c (union parts) lt e
        ∙ ap (λ (ds : List Concept). asking x [] (map (λ d. more_facts (Has x d ∷ [])) ds)
        (tree_over (trees_of table) (union parts)))
        (parts_read parts)
        ∙ ap (λ (added : List Added). asking x [] added (tree_over (trees_of table) (union parts)))
        (map_twice (λ d. more_facts (Has x d ∷ [])) (tree_of table) parts)
        ∙ ap (asking x [] (map (λ d. more_facts (Has x (tree_of table d) ∷ [])) parts))
        (sym (reads c (union parts) lt e));
    by_all = λ x y c s e lt sh.
        at_shape (all_rule x y) c (all_of s e) lt sh
        ∙ ap (asking x (is_node y ∷ has_edge_below s x y ∷ []) (more_facts (Has y (tree_of table e) ∷ []) ∷ []))
        (sym (reads c (all_of s e) lt sh));
    by_carry = λ x y r c s e d lt sh dt dh transitive below.
        at_shape (carry_rule q.theory x y r) c (all_of s e) lt sh
        ∙ ap (λ (b : Bool). when b
        (asking x (is_node y ∷ has_edge_below r x y ∷ []) (more_facts (Has y (all_tree r (tree_of table e)) ∷ []) ∷ [])
        (all_tree s (tree_of table e))))
        (and_from (q.theory.is_transitive r) (q.theory.below r s) transitive below)
        ∙ ap (λ (u : Concept). asking x (is_node y ∷ has_edge_below r x y ∷ []) (more_facts (Has y u ∷ []) ∷ [])
        (all_tree s (tree_of table e)))
        (sym (reads d (all_of r e) dt dh))
        ∙ ap (asking x (is_node y ∷ has_edge_below r x y ∷ []) (more_facts (Has y (tree_of table d) ∷ []) ∷ []))
        (sym (reads c (all_of s e) lt sh));
    by_some = λ x y c s e lt sh.
        at_shape (some_rule x y) c (some_of s e) lt sh
        ∙ ap (asking x [] (more_nodes x s (tree_of table e) y 1 ∷ [])) (sym (reads c (some_of s e) lt sh));
    by_least = λ x y c n s e lt sh fits.
        at_shape (least_rule x y) c (at_least n s e) lt sh
        ∙ ap (λ (b : Bool). when b
        (asking x [] (more_nodes x s (tree_of table e) y n ∷ []) (tree_over (trees_of table) (at_least n s e))))
        (le-leb (y + n) (2 ^ 32) fits)
        ∙ ap (asking x [] (more_nodes x s (tree_of table e) y n ∷ [])) (sym (reads c (at_least n s e) lt sh));
    by_choose = λ y c lt. ap (choose_rule y) (listed c lt);
    by_clash = λ x c d a lt sh dt dh.
        at_shape (clash_rule x) c (name a) lt sh
        ∙ ap (λ (u : Concept). asking x (has_concept x u ∷ []) [] (tree_over (trees_of table) (name a)))
        (sym (reads d (not_name a) dt dh))
        ∙ ap (asking x (has_concept x (tree_of table d) ∷ []) []) (sym (reads c (name a) lt sh));
    by_most = λ x c n s e ys lt sh many.
        at_shape (most_rule x ys) c (at_most n s e) lt sh
        ∙ ap (λ (b : Bool). when b
        (asking x (filler_premises x s (tree_of table e) ys ++ apart_premises ys) []
        (tree_over (trees_of table) (at_most n s e))))
        (eq-eqb (length ys) (n + 1) many)
        ∙ ap (asking x (filler_premises x s (tree_of table e) ys ++ apart_premises ys) [])
        (sym (reads c (at_most n s e) lt sh));
    by_fact = λ a p f e. ap fact_rule e;
    by_differ = λ y z. refl;
  }
