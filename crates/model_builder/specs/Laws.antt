-- The structure of a trail, and the interpretation that it gives.
use Rattle.std.specs.Prelude.{◌≡◌, ℕ, ◌+◌, ◌<◌, List, length, slice_index_or}
use Rattle.shq_terms.specs.Concept.{name}
use Rattle.shq_terms.specs.Listed.{Listed}
use Rattle.shq_terms.specs.declared.axioms.Query.{Query}
use Rattle.shq_meaning.specs.Truth.{Interpretation}
use Rattle.calculus_specs.specs.Shape.{Shape}
use Rattle.calculus_specs.specs.Rows.{Row}
use Rattle.role_box.specs.declared.role_axiom.RoleAxiom.{RoleAxiom}
use Rattle.role_box.specs.RoleAxioms.{role_axioms}
use Rattle.search_laws.specs.Limits.{IsInLimit}
use Rattle.calculus_specs.specs.declared.facts.Fact.{Fact}
use Rattle.search_laws.specs.Theory.{question_in}
use Rattle.tableau_specs.specs.declared.Item.{Item}
use Rattle.tableau_specs.specs.Items.{facts_of}
use Rattle.tableau_specs.specs.Steps.{SearchContext, has_name}
use Rattle.tableau_specs.specs.Reached.{IsReached, context_of}
use Rattle.search_laws.specs.Elements.{elements, node_at, IsNumberOf, original}
use Rattle.search_laws.specs.Built.{IsBuilt}
use Rattle.search_laws.specs.Computed.{leads_to}
use Rattle.model_builder.specs.declared.structure_model.Member.{Member}
use Rattle.model_builder.specs.declared.structure_model.Edge.{Edge}
use Rattle.model_builder.specs.Structure.{is_member_of, leads, IsInterpretation}

-- The members and edges are those of the elements of the trail: of the nodes that these are like. Each individual is
-- the element that its node is one with; there is one first node more than individuals.
pub record AreOfElements (w : SearchContext) (fs : List (Fact ℕ)) (roles : List RoleAxiom) (members : List Member)
    (edges : List Edge) (places : List ℕ) : Type 0 where
  pub members_are : (a v : ℕ) → v < length (elements w.first fs)
      → is_member_of members a v ≡ has_name w fs (original w.first fs (node_at w.first fs v)) (name a)
  pub edges_are : (s v u : ℕ) → v < length (elements w.first fs) → u < length (elements w.first fs)
      → leads roles edges s v u ≡ leads_to w fs s v u
  pub as_many : length places + 1 ≡ w.first
  pub places_are : (a : ℕ) → a < length places → IsNumberOf w.first fs a (slice_index_or places a 0)

-- what is collected of the facts of a trail gives the interpretation of its elements
abbrev pub StructuresAreBuilt : Type 0
StructuresAreBuilt =
    (o : Listed) (ks : List ℕ) (q : Query) (table : List Shape) (rows : List Row) (k : ℕ) (trail : List Item)
    (members : List Member) (edges : List Edge) (places : List ℕ) (i : Interpretation)
    → IsInLimit o q → IsReached (question_in o ks q) table rows k trail
    → AreOfElements (context_of (question_in o ks q) table rows) (facts_of trail) (role_axioms o.axioms ks) members
    edges places
    → IsInterpretation (length (elements (question_in o ks q).first (facts_of trail))) (length o.roles) members
    (role_axioms o.axioms ks) edges places i
    → IsBuilt (context_of (question_in o ks q) table rows) (facts_of trail) i
