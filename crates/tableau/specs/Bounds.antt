-- How long a search is, by the nodes that it has and the concepts that it can give them.
use Rattle.std.specs.Prelude.{ℕ, ◌+◌, ◌*◌, ◌≤◌, List, length}
use Rattle.shq_terms.specs.Concept.{Concept}
use Rattle.calculus_specs.specs.declared.facts.Fact.{Fact}
use Rattle.calculus_specs.specs.State.{node_count_from}
use Rattle.tableau_specs.specs.Items.{facts_of}
use Rattle.search_laws.specs.Closure.{IsClosure}
use Rattle.search_laws.specs.BoundLaws.{AreAtFirst, mark_count}
use Rattle.search_laws.specs.ComputedClosure.{HasFacts}
use Rattle.tableau.specs.SearchState.{SearchState, question_of, context_of, trail_of}

-- the concepts are those that the search can give to nodes, each once
abbrev pub AreItsConcepts : SearchState → List Concept → Type 0
AreItsConcepts s cs = IsClosure (question_of s) cs

-- how many nodes it has
abbrev pub nodes_of : SearchState → ℕ
nodes_of s = node_count_from (context_of s).first (facts_of (trail_of s))

-- while each mark stands at its first alternative: two steps more than there are concepts, for each node, and one for
-- each fact that the axioms give
pub record HasFewSteps (s : SearchState) : Type 0 where
  pub few : (cs : List Concept) (facts : List (Fact Concept)) → AreItsConcepts s cs → HasFacts (question_of s) facts
      → AreAtFirst (trail_of s)
      → s.steps ≤ nodes_of s * (length cs + 2) + length facts

-- how many marks stand in the trail of a search at most, by its nodes and its concepts
pub record HasFewMarks (s : SearchState) : Type 0 where
  pub few : (cs : List Concept) → AreItsConcepts s cs
      → mark_count (trail_of s) ≤ nodes_of s * (nodes_of s + length cs + 1)
