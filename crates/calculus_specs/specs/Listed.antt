-- What a list says of a node: lists that have exactly what facts say, in any order.
use Rattle.std.specs.Prelude.{◌≡◌, ℕ, ◌==◌, nat_lt, ◌&&◌, Bool, List}
use Rattle.std.specs.List.{list_any, IsDistinct}
use Rattle.calculus_specs.specs.declared.facts.Fact.{Fact}
use Rattle.calculus_specs.specs.Joins.{rep}
use Rattle.calculus_specs.specs.State.{has, is_successor}

-- the list is the label of x: exactly the concepts that x has
abbrev pub IsLabel : List (Fact ℕ) → ℕ → List ℕ → Type 0
IsLabel fs x cs = (c : ℕ) → list_any (λ d. d == c) cs ≡ has fs x c

-- the list has each number once
abbrev pub IsOnce : List ℕ → Type 0
IsOnce cs = IsDistinct (λ y z. y == z) cs

-- the list has the edges that begin at x, each as its role and a node, whose representative is the end
abbrev pub AreEdges : List (Fact ℕ) → ℕ → List (ℕ × ℕ) → Type 0
AreEdges fs x edges = (roles : ℕ → Bool) (y : ℕ)
    → list_any (λ p. roles p.0 && rep fs p.1 == y) edges ≡ is_successor fs roles x y

-- the list has those of the first n nodes that are one with x
abbrev pub AreJoined : List (Fact ℕ) → ℕ → ℕ → List ℕ → Type 0
AreJoined fs n x nodes = (y : ℕ) → list_any (λ z. z == y) nodes ≡ (nat_lt y n && rep fs y == rep fs x)
