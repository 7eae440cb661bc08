-- The elements of the interpretation that a saturated trail gives, where there are `first` first nodes: each
-- representative that is not under a block is one. A blocked one is an element of its own, which is in all that its
-- blocker is in. A first node is clear, so that its representative is an element.
use Rattle.std.specs.Prelude.{◌≡◌, ◌<◌, ℕ, ◌+◌, ◌==◌, ◌&&◌, Bool, true, false, List, [], ◌∷◌, length, slice_index}
use Rattle.std.specs.Prelude.{filter, if◌then◌else◌}
use Rattle.std.specs.List.{range_with_len}
use Rattle.calculus_specs.specs.declared.facts.Fact.{Fact}
use Rattle.calculus_specs.specs.Joins.{rep}
use Rattle.calculus_specs.specs.State.{node_count_from}
use Rattle.tableau_specs.specs.declared.Block.{Block}
use Rattle.tableau_specs.specs.declared.Block.TheVariants.{Clear, By, Under}
use Rattle.tableau_specs.specs.Blocked.{block_of}

-- the node is not under a blocked node
abbrev pub is_above : Block → Bool
is_above Clear = true
is_above (By z) = true
is_above Under = false

-- whether a node is an element: a representative that is not under a block
abbrev pub is_element : ℕ → List (Fact ℕ) → ℕ → Bool
is_element first fs x = rep fs x == x && is_above (block_of first fs x)

-- the elements, ascending
abbrev pub elements : ℕ → List (Fact ℕ) → List ℕ
elements first fs = filter (is_element first fs) (range_with_len 0 (node_count_from first fs))

-- the node of an element's number
abbrev pub node_at : ℕ → List (Fact ℕ) → ℕ → ℕ
node_at first fs k = slice_index (elements first fs) k

-- v is the number of the element that a node is one with
pub record IsNumberOf (first : ℕ) (fs : List (Fact ℕ)) (x v : ℕ) : Type 0 where
  pub is_within : v < length (elements first fs)
  pub is_there : node_at first fs v ≡ rep fs x

-- the first place of a number in a list of which it is one
abbrev pub place_in : List ℕ → ℕ → ℕ
place_in [] y = 0
place_in (x ∷ xs) y = if x == y then 0 else place_in xs y + 1

-- the number of the element that a node is one with, computed
abbrev pub number_at : ℕ → List (Fact ℕ) → ℕ → ℕ
number_at first fs x = place_in (elements first fs) (rep fs x)

-- the node itself, or the one by which it is blocked
abbrev pub original_by : Block → ℕ → ℕ
original_by Clear x = x
original_by (By z) x = z
original_by Under x = x

-- the clear node that an element is like: itself, or the one that blocks it
abbrev pub original : ℕ → List (Fact ℕ) → ℕ → ℕ
original first fs x = original_by (block_of first fs x) x
