-- Where a fact may have made a plain clash.
use Rattle.std.specs.Prelude.{◌≡◌, ℕ, ◌<◌, true, List}
use Rattle.calculus_specs.specs.declared.facts.Fact.{Fact}
use Rattle.calculus_specs.specs.declared.facts.Fact.TheVariants.{Has, Edge, Apart, Same}
use Rattle.calculus_specs.specs.State.{node_count_from, has, are_apart, speak_of_nodes}
use Rattle.tableau_specs.specs.Steps.{SearchContext}
use Rattle.step_finders.specs.declared.make.NewNodes.{NewNodes}
use Rattle.step_finders.specs.Clashing.{AreLedTo, NoClashBy, NoClashByEdge, NoClashByApart, NoClashByJoin}

-- a clash can be looked for at node x
pub record IsLookedAt (w : SearchContext) (fs : List (Fact ℕ)) (x : ℕ) : Type 0 where
  pub is_node : x < node_count_from w.first fs
  pub speak : speak_of_nodes w.first fs ≡ true
  pub above : AreLedTo w fs x

-- both nodes are there, and are apart
pub record AreApart (w : SearchContext) (fs : List (Fact ℕ)) (y z : ℕ) : Type 0 where
  pub looked_at : IsLookedAt w fs y
  pub is_other_node : z < node_count_from w.first fs
  pub apart : are_apart fs y z ≡ true

-- and where the fact is so
abbrev pub IsLookable : SearchContext → List (Fact ℕ) → Fact ℕ → Type 0
IsLookable w fs (Has x c) = IsLookedAt w fs x × (has fs x c ≡ true)
IsLookable w fs (Edge r x y) = x < node_count_from w.first fs
IsLookable w fs (Apart y z) = AreApart w fs y z
IsLookable w fs (Same y z) = IsLookedAt w fs y

-- no plain clash is there by the fact
abbrev pub NoClashByFact : SearchContext → List (Fact ℕ) → Fact ℕ → Type 0
NoClashByFact w fs (Has x c) = NoClashBy w fs x c
NoClashByFact w fs (Edge r x y) = NoClashByEdge w fs r x y
NoClashByFact w fs (Apart y z) = NoClashByApart w fs y z
NoClashByFact w fs (Same y z) = NoClashByJoin w fs y

-- the first of new nodes has their concept, and their parent is there
pub record IsNewLookable (w : SearchContext) (fs : List (Fact ℕ)) (m : NewNodes) (new : ℕ) : Type 0 where
  pub parent : m.parent < node_count_from w.first fs
  pub is_node : new < node_count_from w.first fs
  pub holds : has fs new m.filler ≡ true
