-- What is collected of the elements of facts: their members of classes, and the edges between them.
use Rattle.std.specs.Prelude.{◌≡◌, ℕ, ◌<◌, ◌==◌, ◌&&◌, nat_lt, Bool, List, [], ◌∷◌, ◌++◌, length, slice_index_or}
use Rattle.std.specs.Prelude.{Option, Some, None}
use Rattle.std.specs.List.{list_any}
use Rattle.shq_terms.specs.Concept.{name}
use Rattle.shq_meaning.specs.Truth.{Interpretation}
use Rattle.calculus_specs.specs.Shape.{Shape, shape_of}
use Rattle.calculus_specs.specs.Shape.Shape.{name as name_shape}
use Rattle.role_box.specs.declared.role_axiom.RoleAxiom.{RoleAxiom}
use Rattle.role_box.specs.Steps.{is_transitive}
use Rattle.role_box.specs.Paths.{is_below}
use Rattle.calculus_specs.specs.declared.facts.Fact.{Fact}
use Rattle.calculus_specs.specs.State.{is_successor}
use Rattle.tableau_specs.specs.Steps.{SearchContext, has_name}
use Rattle.search_laws.specs.Elements.{elements, node_at, IsNumberOf}
use Rattle.model_builder.specs.declared.structure_model.Member.{Member}
use Rattle.model_builder.specs.declared.structure_model.Edge.{Edge}
use Rattle.model_builder.specs.Structure.{is_member_of, IsInterpretation}
use Rattle.model_builder.specs.Laws.{AreOfElements}

-- what a search reads of roles, concepts and first nodes alone
abbrev pub context_over : List RoleAxiom → List Shape → ℕ → SearchContext
context_over roles table first = record {
  theory = record { parts = []; below = is_below roles; is_transitive = is_transitive roles };
  table = table;
  rows = [];
  first = first;
  fact_of = λ a p. None;
}

-- ---- members

-- the class that a shape names
abbrev pub class_in : Shape → Option ℕ
class_in (name_shape a) = Some a
class_in _ = None

-- that an element is in a class, where one is given
abbrev pub member_of : ℕ → Option ℕ → List Member
member_of v None = []
member_of v (Some a) = record { class = a; element = v } ∷ []

-- the element v in the classes that these concepts name
abbrev pub members_by : List Shape → ℕ → List ℕ → List Member
members_by table v [] = []
members_by table v (c ∷ cs) = member_of v (class_in (shape_of table c)) ++ members_by table v cs

-- whether a node has the class a
abbrev pub has_class : List Shape → List (Fact ℕ) → ℕ → ℕ → Bool
has_class table fs x a = has_name (context_over [] table 1) fs x (name a)

-- the first n elements are in just the classes of the nodes that they are like
abbrev pub AreMembers : List Shape → List (Fact ℕ) → List ℕ → ℕ → List Member → Type 0
AreMembers table fs originals n members = (a v : ℕ)
    → is_member_of members a v ≡ (nat_lt v n && has_class table fs (slice_index_or originals v 0) a)

-- ---- edges

-- an edge from an element to another one, where one is given
abbrev pub edge_to : ℕ → ℕ → Option ℕ → List Edge
edge_to v r None = []
edge_to v r (Some u) = record { role = r; from = v; to = u } ∷ []

-- edges from the element v: where these edges end at elements, which have the numbers of their representatives by m
abbrev pub edges_by : (ℕ → ℕ) → List (Option ℕ) → ℕ → List (ℕ × ℕ) → List Edge
edges_by m numbers v [] = []
edges_by m numbers v (p ∷ ps) = edge_to v p.0 (slice_index_or numbers (m p.1) None) ++ edges_by m numbers v ps

-- whether an edge by one of the roles leads from v to u
abbrev pub has_edge_by : (ℕ → Bool) → List Edge → ℕ → ℕ → Bool
has_edge_by roles edges v u = list_any (λ e. roles e.role && e.from == v && e.to == u) edges

-- whether u is an element, and its node a successor of x
abbrev pub leads_from : ℕ → List (Fact ℕ) → (ℕ → Bool) → ℕ → ℕ → Bool
leads_from first fs roles x u = nat_lt u (length (elements first fs)) && is_successor fs roles x (node_at first fs u)

-- the first n elements have just the edges of the nodes that they are like
abbrev pub AreElementEdges : ℕ → List (Fact ℕ) → List ℕ → ℕ → List Edge → Type 0
AreElementEdges first fs originals n edges = (roles : ℕ → Bool) (v u : ℕ)
    → has_edge_by roles edges v u ≡ (nat_lt v n && leads_from first fs roles (slice_index_or originals v 0) u)

-- ---- individuals

-- so many individuals are the elements that their nodes are one with
pub record ArePlaces (first : ℕ) (fs : List (Fact ℕ)) (n : ℕ) (places : List ℕ) : Type 0 where
  pub long : length places ≡ n
  pub each : (a : ℕ) → a < n → IsNumberOf first fs a (slice_index_or places a 0)

-- ---- the interpretation

-- it is that of a structure with these members, edges and individuals
pub record IsOfElements (table : List Shape) (roles : List RoleAxiom) (count first : ℕ) (fs : List (Fact ℕ))
    (i : Interpretation) : Type 0 where
  pub members : List Member
  pub edges : List Edge
  pub places : List ℕ
  pub are_of_elements : AreOfElements (context_over roles table first) fs roles members edges places
  pub is_interpretation : IsInterpretation (length (elements first fs)) count members roles edges places i
