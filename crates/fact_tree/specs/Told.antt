-- What a tree answers of nodes that are apart, and what it gains with new nodes.
use Rattle.std.specs.Prelude.{◌≡◌, ℕ, ◌<◌, ◌==◌, ◌&&◌, Bool, true, false, List, ◌++◌, length, take, get_or, Some}
use Rattle.std.specs.List.{list_any}
use Rattle.calculus_specs.specs.declared.facts.Fact.{Fact}
use Rattle.calculus_specs.specs.Joins.{rep}
use Rattle.calculus_specs.specs.State.{node_count_from, parent_from, has_edge, gives_concept, gives_edge, gives_apart}
use Rattle.calculus_specs.specs.State.{fresh_facts}
use Rattle.calculus_specs.specs.declared.facts.Fact.TheVariants.{Has, Edge, Apart, Same}
use Rattle.fact_tree.specs.Facts.{TreeFacts}

-- whether the fact keeps a node with the representative a, which it names first, apart from one with the representative
-- b
abbrev pub gives_first : (ℕ → ℕ) → ℕ → ℕ → Fact ℕ → Bool
gives_first m a b (Apart y z) = m y == a && m z == b
gives_first m a b (Has y c) = false
gives_first m a b (Edge r y z) = false
gives_first m a b (Same y z) = false

-- the list has the second nodes of the pairs that are apart and name a node first that is one with x
abbrev pub AreAparts : List (Fact ℕ) → ℕ → List ℕ → Type 0
AreAparts fs x zs = (b : ℕ) → list_any (λ z. rep fs z == b) zs ≡ list_any (gives_first (rep fs) (rep fs x) b) fs

-- whether a fact keeps x, or a node that is one with it, which it names first, apart from y
abbrev pub is_first_apart : List (Fact ℕ) → ℕ → ℕ → Bool
is_first_apart fs x y = list_any (gives_first (rep fs) (rep fs x) (rep fs y)) fs

-- the facts with those of new nodes behind them, as many as `count`
abbrev pub with_fresh : TreeFacts → ℕ → ℕ → ℕ → ℕ → TreeFacts
with_fresh t x s e count =
    record { first = t.first; facts = t.facts ++ fresh_facts x s e (node_count_from t.first t.facts) count }

-- the same first nodes, and the later facts begin with the earlier ones
pub record Continues (earlier later : TreeFacts) : Type 0 where
  pub first : later.first ≡ earlier.first
  pub begins : take (length earlier.facts) later.facts ≡ earlier.facts

-- an edge of the role leads to the node from its parent
abbrev pub IsOrigin : ℕ → List (Fact ℕ) → ℕ → (ℕ × ℕ) → Type 0
IsOrigin first fs x o = (has_edge fs (λ s. s == o.0) o.1 x ≡ true) × (parent_from first fs x ≡ Some o.1)

-- whether a fact alone says what is asked, where m leads each node to its representative; that two nodes are one is
-- said by joins
abbrev pub gives : (ℕ → ℕ) → Fact ℕ → Fact ℕ → Bool
gives m (Has x c) f = gives_concept (λ d. d == c) m (m x) f
gives m (Edge r x y) f = gives_edge (λ s. s == r) m (m x) (m y) f
gives m (Apart x y) f = gives_apart m (m x) (m y) f
gives m (Same x y) f = false

-- the fact at a place of the list alone says what is asked
abbrev pub IsGround : List (Fact ℕ) → Fact ℕ → ℕ → Type 0
IsGround fs asked place = (place < length fs) × (gives (rep fs) asked (get_or fs place (Has 0 0)) ≡ true)

-- no fact of the list alone says what is asked
abbrev pub IsUngrounded : List (Fact ℕ) → Fact ℕ → Type 0
IsUngrounded fs asked = list_any (gives (rep fs) asked) fs ≡ false

-- no other node is one with the representative of x
abbrev pub IsAlone : List (Fact ℕ) → ℕ → Type 0
IsAlone fs x = (y : ℕ) → rep fs y ≡ rep fs x → y ≡ rep fs x
