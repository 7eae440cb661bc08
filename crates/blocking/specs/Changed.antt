-- The least node of which facts say something new.
use Rattle.std.specs.Prelude.{ℕ, nat_lt, min, List, [], ◌∷◌, if◌then◌else◌}
use Rattle.calculus_specs.specs.declared.facts.Fact.{Fact}
use Rattle.calculus_specs.specs.declared.facts.Fact.TheVariants.{Has, Edge, Apart, Same}
use Rattle.tableau_specs.specs.declared.Item.{Item}
use Rattle.tableau_specs.specs.declared.Item.TheVariants.{Fact as Says, Mark}

-- the lesser of a bound and the nodes whose label, parent or representative the fact may change, where m leads each
-- node to its representative; a first node has no parent, whatever edge leads to it
abbrev pub least_with : ℕ → (ℕ → ℕ) → ℕ → Fact ℕ → ℕ
least_with first m bound (Has y c) = min bound (m y)
least_with first m bound (Edge r y z) = if nat_lt z first then bound else min bound z
least_with first m bound (Apart y z) = bound
least_with first m bound (Same y z) = min (min bound (m y)) (m z)

-- the least of a bound and the nodes of which an item says something new
abbrev pub least_of_item : ℕ → (ℕ → ℕ) → ℕ → Item → ℕ
least_of_item first m bound (Says f) = least_with first m bound f
least_of_item first m bound (Mark c) = bound

-- the least of a bound and the nodes of which some facts say something new
abbrev pub least_touched : ℕ → (ℕ → ℕ) → ℕ → List (Fact ℕ) → ℕ
least_touched first m bound [] = bound
least_touched first m bound (f ∷ fs) = least_touched first m (least_with first m bound f) fs
