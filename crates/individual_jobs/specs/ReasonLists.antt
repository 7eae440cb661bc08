-- Why an individual is in a class expression, in numbers of individuals and axioms.
use Rattle.std.specs.Prelude.{ℕ, List}
use Rattle.axiom_sets.specs.Sets.{Limited}

-- an individual, and the justifications of its being an instance
pub record ReasonLists : Type 0 where
  pub individual : ℕ
  pub justifications : List Limited
