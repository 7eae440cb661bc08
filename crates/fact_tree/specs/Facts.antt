-- The facts of a tree.
use Rattle.std.specs.Prelude.{ℕ, List}
use Rattle.calculus_specs.specs.declared.facts.Fact.{Fact}

-- the first nodes are those below `first`
pub record TreeFacts : Type 0 where
  pub first : ℕ
  pub facts : List (Fact ℕ)
