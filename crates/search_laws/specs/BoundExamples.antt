-- Worked closures, bounds and kept steps.
use Rattle.std.specs.Prelude.{◌≡◌, false, ◌==◌, List, [], ◌∷◌, ◌++◌, Some, refl}
use Rattle.shq_terms.specs.Concept.{top, bottom, name, complement, union, some_of, all_of, at_least, at_most, parts_of}
use Rattle.calculus_specs.specs.Rows.{Theory, inclusion_of}
use Rattle.calculus_specs.specs.Rules.{on_any}
use Rattle.calculus_specs.specs.declared.facts.Fact.TheVariants.{Has, Edge, Same}
use Rattle.shq_terms.specs.declared.axioms.Axiom.TheVariants.{Member, Pair, SameAll}
use Rattle.shq_terms.specs.declared.axioms.Numbered.{Numbered}
use Rattle.shq_terms.specs.declared.axioms.On.TheVariants.{Any}
use Rattle.calculus_specs.specs.Shape.Shape.{top as top_shape}
use Rattle.tableau_specs.specs.declared.Item.{Item}
use Rattle.tableau_specs.specs.declared.Item.TheVariants.{Fact as Says}
use Rattle.tableau_specs.specs.Reached.{start}
use Rattle.tableau_specs.specs.Steps.{SearchContext}
use Rattle.search_laws.specs.Closure.{most_made, most_parts, node_bound, nodes_of}
use Rattle.search_laws.specs.KeptSteps.{IsGrown, no_steps, one_giving, step_counts}
use Rattle.search_laws.specs.KeptSteps.IsGrown.{at_first, by_give}
use Rattle.search_laws.specs.ComputedClosure.{given_facts, closure, closure_of}

-- each class 10 has some class 10 by role 7
abbrev theory : Theory
theory = record {
  parts = record { axiom_number = 1; part_number = 1; part = inclusion_of (name 10) (some_of 7 (name 10)) } ∷ [];
  below = λ r s. r == s;
  is_transitive = λ r. false;
}

-- both rows of the inclusion, with the union's parts and the filler
pub five_concepts : closure (on_any theory (name 10) bottom) [] []
    ≡ top ∷ union (parts_of (complement (name 10) ∷ some_of 7 (name 10) ∷ [])) ∷ complement (name 10)
    ∷ some_of 7 (name 10) ∷ name 10 ∷ []
five_concepts = refl

pub generates_one : most_made (closure (on_any theory (name 10) bottom) [] []) ≡ 1
generates_one = refl

pub has_two_parts : most_parts (closure (on_any theory (name 10) bottom) [] []) ≡ 2
has_two_parts = refl

-- role 9 is transitive
abbrev one_transitive : Theory
one_transitive = record { parts = []; below = λ r s. r == s; is_transitive = λ r. r == 9 }

-- the transitive role hands on an 'all'
pub all_is_carried : closure (on_any one_transitive (all_of 7 (name 10)) bottom) (9 ∷ []) []
    ≡ all_of 7 (name 10) ∷ all_of 9 (name 10) ∷ name 10 ∷ top ∷ []
all_is_carried = refl

-- 'at most' brings its filler and the complement of that
pub other_is_in : closure (on_any one_transitive (at_most 3 7 (name 10)) bottom) (9 ∷ []) []
    ≡ at_most 3 7 (name 10) ∷ name 10 ∷ complement (name 10) ∷ top ∷ []
other_is_in = refl

-- a closure of one concept bounds the nodes by 16
pub nodes_of_one : node_bound 1 1 ≡ 16
nodes_of_one = refl

-- two individuals and the node in question are the roots of three trees
pub nodes_of_three_trees : nodes_of 3 (name 10 ∷ []) ≡ 48
nodes_of_three_trees = refl

pub generates_three : most_made (closure (on_any one_transitive (at_least 3 7 (name 10)) bottom) (9 ∷ []) []) ≡ 3
generates_three = refl

-- ---- individuals

-- individual 0 has some class 10 by role 7, and is the same as individual 1, to which role 8 leads from it
abbrev of_individuals : List Numbered
of_individuals =
    record { «axiom» = Member (some_of 7 (name 10)) 0; line = 1 }
    ∷ record { «axiom» = Pair 8 0 1; line = 2 }
    ∷ record { «axiom» = SameAll (0 ∷ 1 ∷ []); line = 3 }
    ∷ []

pub three_facts : given_facts 2 of_individuals (1 ∷ 2 ∷ 3 ∷ [])
    ≡ Has 0 (some_of 7 (name 10)) ∷ Edge 8 0 1 ∷ Same 0 1 ∷ []
three_facts = refl

-- of one individual alone
pub one_fact : given_facts 1 of_individuals (1 ∷ 2 ∷ 3 ∷ []) ≡ Has 0 (some_of 7 (name 10)) ∷ []
one_fact = refl

-- what an individual has is in the closure, and so is what that contains
pub member_is_in : closure_of 2 of_individuals (1 ∷ 2 ∷ 3 ∷ []) (record { sub = top; sup = bottom; on = Any })
    ≡ top ∷ some_of 7 (name 10) ∷ name 10 ∷ []
member_is_in = refl

-- ---- kept steps

-- an axiom gives that role 7 leads from individual 0 to individual 1
abbrev linked : SearchContext
linked = record {
  theory = one_transitive;
  table = top_shape ∷ [];
  rows = [];
  first = 3;
  fact_of = λ a p. Some (Edge 7 0 1);
}

abbrev linked_trail : List Item
linked_trail = start 2 0 0 ++ Says (Edge 7 0 1) ∷ []

-- a trail that keeps one step, which puts the edge
abbrev grown : IsGrown linked (start 2 0 0) (1 ∷ []) linked_trail
grown =
    by_give [] (start 2 0 0) (Edge 7 0 1) at_first
    (record { axiom_number = 1; place = 1; is_there = refl; listed = refl; on_first = refl }) refl

pub one_gives : step_counts linked (start 2 0 0) (1 ∷ []) linked_trail grown ≡ one_giving no_steps
one_gives = refl
