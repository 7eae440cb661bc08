-- The interpretation that a saturated trail gives.
use Rattle.std.specs.Prelude.{◌≡◌, ℕ, ◌+◌, ◌<◌, ◌≤◌, true, ◌↔◌, List, length}
use Rattle.shq_terms.specs.Concept.{name}
use Rattle.ontology_limits.specs.Truth.{Interpretation}
use Rattle.calculus_specs.specs.declared.facts.Fact.{Fact}
use Rattle.tableau_specs.specs.Steps.{SearchContext, has_name}
use Rattle.search_laws.specs.Elements.{elements, node_at, IsNumberOf, original}
use Rattle.search_laws.specs.Pairs.{IsPair}

-- Its elements are those of the trail, by their places; a class has the elements that are like a node with it. The
-- first nodes are one for each individual and one more: an individual is the element that its node is one with, and an
-- individual without a node is the number 0.
pub record IsBuilt (w : SearchContext) (fs : List (Fact ℕ)) (i : Interpretation) : Type 0 where
  pub size_is : i.size ≡ length (elements w.first fs)
  pub classes_are : (a v : ℕ) → v < i.size
      → i.in_class a v ≡ has_name w fs (original w.first fs (node_at w.first fs v)) (name a)
  pub roles_are : (s v u : ℕ) → v < i.size → u < i.size
      → (i.in_role s v u ≡ true) ↔ IsPair w fs s (node_at w.first fs v) (node_at w.first fs u)
  pub individuals_are : (a : ℕ) → a + 1 < w.first → IsNumberOf w.first fs a (i.individual a)
  pub others_are : (a : ℕ) → w.first ≤ a + 1 → i.individual a ≡ 0
