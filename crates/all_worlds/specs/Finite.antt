-- A finite interpretation as a world: its elements are the numbers below its size.
use Rattle.std.specs.Prelude.{ℕ, ◌<◌}
use Rattle.shq_nnf.specs.Truth.{Interpretation, PlacesIndividuals}
use Rattle.all_worlds.specs.Worlds.{World}

-- an element of a finite interpretation: a number below its size
pub record Element (size : ℕ) : Type 0 where
  pub number : ℕ
  pub below : number < size

-- classes and roles have the elements that they have in the interpretation, and each individual is the element that it
-- is there
abbrev pub world_of : (i : Interpretation) → PlacesIndividuals i → World (Element i.size)
world_of i placed = record {
  member = record { number = i.individual 0; below = placed 0 };
  in_class = λ a x. i.in_class a x.number;
  in_role = λ r x y. i.in_role r x.number y.number;
  individual = λ a. record { number = i.individual a; below = placed a };
}
