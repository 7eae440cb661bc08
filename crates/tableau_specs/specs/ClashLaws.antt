-- Laws of plain clashes after one step more.
use Rattle.std.specs.Prelude.{◌≡◌, ℕ, ◌<◌, Bool, true, List, [], ◌∷◌, ◌++◌, ◌↔◌, take, Some, slice_get}
use Rattle.calculus_specs.specs.Shape.{Shape, shape_of}
use Rattle.calculus_specs.specs.Shape.Shape.{top}
use Rattle.calculus_specs.specs.declared.facts.Fact.{Fact}
use Rattle.calculus_specs.specs.declared.facts.Fact.TheVariants.{Has, Edge, Apart, Same}
use Rattle.calculus_specs.specs.State.{node_count_from, fresh_facts, speak_of_nodes, are_apart}
use Rattle.tableau_specs.specs.Clash.{IsPlainClash}
use Rattle.tableau_specs.specs.declared.Choice.{Choice}
use Rattle.tableau_specs.specs.declared.Item.{Item}
use Rattle.tableau_specs.specs.declared.Item.TheVariants.{Mark}
use Rattle.tableau_specs.specs.Items.{facts_of}
use Rattle.tableau_specs.specs.Steps.{SearchContext, HasPlainClash}
use Rattle.tableau_specs.specs.Reached.{start, Follows}
use Rattle.tableau_specs.specs.Near.{ClashesBy, ClashesByNew, ClashesByApart, ClashesByJoin, ClashesByEdge}

-- where there was no plain clash, a concept more at a node makes one exactly where it does so there
abbrev pub ConceptClashesThere : Type 0
ConceptClashesThere = (first : ℕ) (below : ℕ → ℕ → Bool) (table : List Shape) (fs : List (Fact ℕ)) (x d : ℕ)
    → x < node_count_from first fs → ¬ IsPlainClash first below table fs
    → IsPlainClash first below table (fs ++ Has x d ∷ []) ↔ ClashesBy first below table (fs ++ Has x d ∷ []) x d

-- and the facts of new nodes make one exactly where the new concept is bottom, or too many are below their parent
abbrev pub NewNodesClashThere : Type 0
NewNodesClashThere = (first : ℕ) (below : ℕ → ℕ → Bool) (table : List Shape) (fs : List (Fact ℕ)) (x s e n : ℕ)
    → shape_of table 0 ≡ top → speak_of_nodes first fs ≡ true → x < node_count_from first fs → 0 < n
    → ¬ IsPlainClash first below table fs
    → IsPlainClash first below table (fs ++ fresh_facts x s e (node_count_from first fs) n)
    ↔ ClashesByNew first below table (fs ++ fresh_facts x s e (node_count_from first fs) n) x s e

-- that two nodes are apart makes one exactly where both are counted, or are one
abbrev pub ApartClashesThere : Type 0
ApartClashesThere = (first : ℕ) (below : ℕ → ℕ → Bool) (table : List Shape) (fs : List (Fact ℕ)) (y z : ℕ)
    → y < node_count_from first fs → z < node_count_from first fs → ¬ IsPlainClash first below table fs
    → IsPlainClash first below table (fs ++ Apart y z ∷ [])
    ↔ ClashesByApart first below table (fs ++ Apart y z ∷ []) y z

-- that two nodes are one makes one exactly at this node, or above it
abbrev pub JoinClashesThere : Type 0
JoinClashesThere = (first : ℕ) (below : ℕ → ℕ → Bool) (table : List Shape) (fs : List (Fact ℕ)) (y z : ℕ)
    → y < node_count_from first fs → z < node_count_from first fs → ¬ IsPlainClash first below table fs
    → IsPlainClash first below table (fs ++ Same y z ∷ []) ↔ ClashesByJoin first below table (fs ++ Same y z ∷ []) y

-- and the node is apart from itself then exactly where the two were apart
abbrev pub JoinedAreApartAsBefore : Type 0
JoinedAreApartAsBefore = (first : ℕ) (below : ℕ → ℕ → Bool) (table : List Shape) (fs : List (Fact ℕ)) (y z : ℕ)
    → speak_of_nodes first fs ≡ true → ¬ IsPlainClash first below table fs
    → are_apart (fs ++ Same y z ∷ []) y y ≡ are_apart fs y z

-- that an edge leads from one node to another makes one exactly at its beginning
abbrev pub EdgeClashesThere : Type 0
EdgeClashesThere = (first : ℕ) (below : ℕ → ℕ → Bool) (table : List Shape) (fs : List (Fact ℕ)) (r x y : ℕ)
    → x < node_count_from first fs → y < node_count_from first fs → ¬ IsPlainClash first below table fs
    → IsPlainClash first below table (fs ++ Edge r x y ∷ [])
    ↔ ClashesByEdge first below table (fs ++ Edge r x y ∷ []) r x y

-- ---- of the trails that a search reaches

-- the facts of a trail that a search reaches speak of nodes alone
abbrev pub ReachedSpeakOfNodes : Type 0
ReachedSpeakOfNodes = (w : SearchContext) (at sub not_sup k : ℕ) (trail : List Item) → at < w.first
    → Follows w (start at sub not_sup) k trail → speak_of_nodes w.first (facts_of trail) ≡ true

-- what stands before a mark has no plain clash, so that after a step back there is one at most by the next alternative
abbrev pub NoClashBeforeMarks : Type 0
NoClashBeforeMarks = (w : SearchContext) (at sub not_sup k : ℕ) (trail : List Item) → at < w.first
    → Follows w (start at sub not_sup) k trail
    → (place : ℕ) (c : Choice) → slice_get trail place ≡ Some (Mark c) → ¬ HasPlainClash w (take place trail)
