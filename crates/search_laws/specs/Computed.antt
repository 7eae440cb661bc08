-- The interpretation of a saturated trail, computed.
use Rattle.std.specs.Prelude.{ℕ, ◌+◌, ◌&&◌, ◌||◌, nat_lt, Bool, List, length, if◌then◌else◌}
use Rattle.std.specs.List.{list_any, range_with_len}
use Rattle.shq_terms.specs.Concept.{name}
use Rattle.ontology_limits.specs.Truth.{Interpretation}
use Rattle.ontology_limits.specs.Paths.{has_path}
use Rattle.calculus_specs.specs.declared.facts.Fact.{Fact}
use Rattle.calculus_specs.specs.State.{is_successor}
use Rattle.tableau_specs.specs.Steps.{SearchContext, below_of, has_name}
use Rattle.search_laws.specs.Elements.{elements, node_at, number_at, original}

module _ (w : SearchContext) (fs : List (Fact ℕ)) where
  -- whether an edge below s leads from the element v to the element u
  abbrev pub leads_to : ℕ → ℕ → ℕ → Bool
  leads_to s v u =
      is_successor fs (λ r. below_of w r s) (original w.first fs (node_at w.first fs v)) (node_at w.first fs u)

  -- whether one or more edges below t do
  abbrev pub has_chain : ℕ → ℕ → ℕ → Bool
  has_chain t v u = has_path (leads_to t) (length (elements w.first fs)) v u

  -- whether the pair (v, u) is one of role s, where each transitive role is below `limit`
  abbrev pub has_pair : ℕ → ℕ → ℕ → ℕ → Bool
  has_pair limit s v u =
      leads_to s v u
      || list_any (λ t. w.theory.is_transitive t && w.theory.below t s && has_chain t v u) (range_with_len 0 limit)

  -- the number of an individual: that of its node, where it has one
  abbrev pub individual_at : ℕ → ℕ
  individual_at a = if nat_lt (a + 1) w.first then number_at w.first fs a else 0

  abbrev pub built : ℕ → Interpretation
  built limit = record {
    size = length (elements w.first fs);
    in_class = λ a v. has_name w fs (original w.first fs (node_at w.first fs v)) (name a);
    in_role = has_pair limit;
    individual = individual_at;
  }
