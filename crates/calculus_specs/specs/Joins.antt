-- Which nodes are one by the `Same` facts of a list.
use Rattle.std.specs.Prelude.{◌≡◌, ℕ, ◌==◌, ◌&&◌, ◌||◌, min, Bool, true, false, List, [], ◌∷◌, if◌then◌else◌}
use Rattle.std.specs.List.{list_any}
use Rattle.calculus_specs.specs.declared.facts.Fact.{Fact}
use Rattle.calculus_specs.specs.declared.facts.Fact.TheVariants.{Has, Edge, Apart, Same}

-- two representatives become one, the lesser
abbrev pub merged : ℕ → ℕ → ℕ → ℕ
merged y z x = if x == y || x == z then min y z else x

-- the representatives after one fact more
abbrev pub rep_after : {C : Type 0} → (ℕ → ℕ) → Fact C → ℕ → ℕ
rep_after m (Same y z) x = merged (m y) (m z) (m x)
rep_after m (Has y c) x = m x
rep_after m (Edge r y z) x = m x
rep_after m (Apart y z) x = m x

-- the representative after some facts, where those before them gave each node one
abbrev pub rep_from : {C : Type 0} → (ℕ → ℕ) → List (Fact C) → ℕ → ℕ
rep_from m [] x = m x
rep_from m (f ∷ fs) x = rep_from (rep_after m f) fs x

-- the representative of a node
abbrev pub rep : {C : Type 0} → List (Fact C) → ℕ → ℕ
rep fs x = rep_from (λ y. y) fs x

-- whether the fact joins y and z
abbrev pub joins : {C : Type 0} → ℕ → ℕ → Fact C → Bool
joins y z (Same v w) = (v == y && w == z) || (v == z && w == y)
joins y z (Has v c) = false
joins y z (Edge r v w) = false
joins y z (Apart v w) = false

-- two nodes are joined by the facts: a chain of `Same` facts leads from one to the other
pub data IsJoined {C : Type 0} (fs : List (Fact C)) : ℕ → ℕ → Type 0 where
  itself : (x : ℕ) → IsJoined fs x x
  by_fact : (x y z : ℕ) → list_any (joins y z) fs ≡ true → IsJoined fs x y → IsJoined fs x z
