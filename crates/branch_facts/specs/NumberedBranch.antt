-- What a branch knows: nodes, and facts on them over concepts by number.
use Rattle.std.specs.Prelude.{ℕ, ◌==◌, Bool, List}
use Rattle.std.specs.List.{list_any}
use Rattle.calculus_specs.specs.declared.facts.Fact.{Fact}

-- a branch: its nodes, and its facts over concepts by number
pub record NumberedBranch : Type 0 where
  pub nodes : List ℕ
  pub facts : List (Fact ℕ)

-- the branch has the node
abbrev pub has_node : NumberedBranch → ℕ → Bool
has_node k x = list_any (λ y. y == x) k.nodes
