-- Given facts over the numbers of a table, and the edges among them.
use Rattle.std.specs.Prelude.{◌≡◌, ℕ, ◌<◌, ◌==◌, Bool, true, List, [], ◌∷◌, length, if◌then◌else◌, slice_index_or}
use Rattle.std.specs.List.{flat_map}
use Rattle.shq_terms.specs.Concept.{Concept}
use Rattle.calculus_specs.specs.Normal.{normal_form}
use Rattle.calculus_specs.specs.Shape.{Shape}
use Rattle.calculus_specs.specs.Tree.{tree_of}
use Rattle.calculus_specs.specs.Reading.{read_fact, is_fact_listed}
use Rattle.calculus_specs.specs.declared.facts.Fact.{Fact}
use Rattle.calculus_specs.specs.declared.facts.Fact.TheVariants.{Has, Edge, Apart, Same}
use Rattle.ontology_limits.specs.Counts.{has_counts_within}
use Rattle.assertion_box.specs.Stated.{Stated, stated_at}
use Rattle.step_finders.specs.declared.state.Given.{Given}

-- ---- numbers of facts

-- the cardinalities of the fact's class expression, if it has one, are at most 100
abbrev pub fact_has_counts : Fact Concept → Bool
fact_has_counts (Has x c) = has_counts_within 100 c
fact_has_counts (Edge r x y) = true
fact_has_counts (Apart x y) = true
fact_has_counts (Same x y) = true

-- the fact over numbers of the table says what the other does, with its class expression in negation normal form
pub record IsFactNumber (table : List Shape) (f : Fact ℕ) (t : Fact Concept) : Type 0 where
  pub listed : is_fact_listed (length table) f ≡ true
  pub reads : read_fact (tree_of table) f ≡ read_fact normal_form t

-- the same of a stated fact, with its axiom and its place
pub record IsNumbered (table : List Shape) (s : Stated) (g : Given) : Type 0 where
  pub axiom_is : g.«axiom» ≡ s.axiom_number
  pub place_is : g.place ≡ s.place
  pub fact_is : IsFactNumber table g.fact s.fact

-- the one at a place, from 0; one that is not there reads as one of no axiom
abbrev pub given_at : List Given → ℕ → Given
given_at gs p = slice_index_or gs p (record { «axiom» = 0; place = 0; fact = Same 0 0 })

-- they are the first n of the stated facts
pub record AreNumberedTo (table : List Shape) (stated : List Stated) (gs : List Given) (n : ℕ) : Type 0 where
  pub count : length gs ≡ n
  pub each : (p : ℕ) → p < n → IsNumbered table (stated_at stated p) (given_at gs p)

-- they are all of them
abbrev pub AreNumbered : List Shape → List Stated → List Given → Type 0
AreNumbered table stated gs = AreNumberedTo table stated gs (length stated)

-- ---- edges by their ends

-- the role and the begin of an edge, if the fact is one that ends at the node
abbrev pub edge_into : ℕ → Fact ℕ → List (ℕ × ℕ)
edge_into x (Edge r y z) = if z == x then (r, y) ∷ [] else []
edge_into x (Has y c) = []
edge_into x (Apart y z) = []
edge_into x (Same y z) = []

-- the given edges that lead into a node
abbrev pub edges_into : ℕ → List Given → List (ℕ × ℕ)
edges_into x gs = flat_map (λ g. edge_into x g.fact) gs
