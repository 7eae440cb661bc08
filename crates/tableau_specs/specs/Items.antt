-- The items of a trail.
use Rattle.std.specs.Prelude.{ℕ, List, [], ◌∷◌}
use Rattle.calculus_specs.specs.declared.facts.Fact.{Fact}
use Rattle.tableau_specs.specs.declared.Item.{Item}
use Rattle.tableau_specs.specs.declared.Item.TheVariants.{Fact as Says, Mark}

-- the facts of a trail, in order
abbrev pub facts_of : List Item → List (Fact ℕ)
facts_of [] = []
facts_of (Says f ∷ is) = f ∷ facts_of is
facts_of (Mark c ∷ is) = facts_of is

-- the items that are these facts
abbrev pub says : List (Fact ℕ) → List Item
says [] = []
says (f ∷ fs) = Says f ∷ says fs
