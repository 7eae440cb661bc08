-- Which representatives are blocked, by recursion on the number of the node. Each of the `first` first nodes is clear.
use Rattle.std.specs.Prelude.{ℕ, zero, suc, ◌+◌, ◌==◌, nat_lt, ◌&&◌, Bool, true, false, List, [], ◌∷◌, ◌++◌, Option}
use Rattle.std.specs.Prelude.{Some, None, if◌then◌else◌, slice_index_or}
use Rattle.calculus_specs.specs.declared.facts.Fact.{Fact}
use Rattle.calculus_specs.specs.Joins.{rep}
use Rattle.calculus_specs.specs.State.{parent_from, is_label_part}
use Rattle.tableau_specs.specs.declared.Block.{Block}
use Rattle.tableau_specs.specs.declared.Block.TheVariants.{Clear, By, Under}

-- the block of a node says that it is neither blocked nor under a blocked one
abbrev pub is_clear : Block → Bool
is_clear Clear = true
is_clear (By z) = false
is_clear Under = false

-- whether the representative of the parent, if there is one, is clear, where `blocks` are those of the nodes from 0 on
abbrev pub is_parent_clear : List (Fact ℕ) → List Block → Option ℕ → Bool
is_parent_clear fs blocks None = true
is_parent_clear fs blocks (Some p) = is_clear (slice_index_or blocks (rep fs p) Under)

-- whether z is a clear representative that has the label of x
abbrev pub may_block : List (Fact ℕ) → List Block → ℕ → ℕ → Bool
may_block fs blocks x z = rep fs z == z && is_clear (slice_index_or blocks z Under) && is_label_part fs x z

-- x is blocked by the least of the n nodes from z on that may block it; where there is none it is clear
abbrev pub blocked_from : List (Fact ℕ) → List Block → ℕ → ℕ → ℕ → Block
blocked_from fs blocks x z zero = Clear
blocked_from fs blocks x z (suc n) = if may_block fs blocks x z then By z else blocked_from fs blocks x (z + 1) n

-- the block of node x, where `blocks` are those of the nodes below it
abbrev pub block_at : ℕ → List (Fact ℕ) → List Block → ℕ → Block
block_at first fs blocks x =
    if nat_lt x first then Clear
    else (if is_parent_clear fs blocks (parent_from first fs x) then blocked_from fs blocks x 0 x else Under)

-- the blocks of the first n nodes
abbrev pub blocks_to : ℕ → List (Fact ℕ) → ℕ → List Block
blocks_to first fs zero = []
blocks_to first fs (suc n) = blocks_to first fs n ++ block_at first fs (blocks_to first fs n) n ∷ []

-- the block of a representative
abbrev pub block_of : ℕ → List (Fact ℕ) → ℕ → Block
block_of first fs x = block_at first fs (blocks_to first fs x) x
