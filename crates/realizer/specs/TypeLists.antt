-- What a realization says, in numbers of individuals and classes.
use Rattle.std.specs.Prelude.{ℕ, List}

-- an individual, and the first class of each of its direct type groups
pub record TypeLists : Type 0 where
  pub individual : ℕ
  pub types : List ℕ
