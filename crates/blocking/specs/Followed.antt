-- What is kept of the blocks of a list of facts over so many first nodes: the blocks, and what is known of each node.
use Rattle.std.specs.Prelude.{◌≡◌, ℕ, ◌%◌, ◌<◌, ◌≤◌, ◌==◌, ◌&&◌, true, false, List, [], ◌∷◌, ◌++◌, length, take}
use Rattle.std.specs.Prelude.{if◌then◌else◌}
use Rattle.std.specs.List.{list_any}
use Rattle.std.specs.FinSet as set
use Rattle.lane_sieve.specs.Sets.{number_set}
use Rattle.calculus_specs.specs.declared.facts.Fact.{Fact}
use Rattle.calculus_specs.specs.Joins.{rep}
use Rattle.calculus_specs.specs.State.{node_count_from}
use Rattle.calculus_specs.specs.Listed.{IsLabel}
use Rattle.tableau_specs.specs.declared.Block.{Block}
use Rattle.tableau_specs.specs.declared.Block.TheVariants.{Clear, By}
use Rattle.tableau_specs.specs.Blocked.{is_clear, may_block, blocks_to, block_of}
use Rattle.blocking.specs.Hinted.{KnownNode, known_at, is_among}

-- the blocks of the nodes from 0 on, and what is known of each
pub record Printed : Type 0 where
  pub blocks : List Block
  pub known : List KnownNode

-- nothing is kept of blocks yet
abbrev pub no_prints : Printed
no_prints = record { blocks = []; known = [] }

abbrev pub blocks_in : Printed → List Block
blocks_in p = p.blocks

-- with the block of one node more, and what is known of it
abbrev pub printed_more : Printed → Block → KnownNode → Printed
printed_more p block k = record { blocks = p.blocks ++ block ∷ []; known = p.known ++ k ∷ [] }

-- with those of the nodes below n alone
abbrev pub printed_first : ℕ → Printed → Printed
printed_first n p = record { blocks = take n p.blocks; known = take n p.known }

-- ---- prints

-- the print of a label has the bit of each of its concepts: number c has bit c modulo 256, and no other bit
abbrev pub IsPrintOf : List ℕ → List ℕ → Type 0
IsPrintOf concepts print = (k : ℕ) → set.contains (number_set print) k ≡ list_any (λ c. c % 256 == k) concepts

-- each bit of the print is that of some concept, so that what has all of the concepts has all of the bits
abbrev pub IsPrintWithin : List ℕ → List ℕ → Type 0
IsPrintWithin concepts print = (k : ℕ) → set.contains (number_set print) k ≡ true
    → list_any (λ c. c % 256 == k) concepts ≡ true

-- ---- what is current

-- what is known of node z is so: what it has, and whether it is a clear representative
pub record IsSound (first : ℕ) (fs : List (Fact ℕ)) (z : ℕ) (k : KnownNode) : Type 0 where
  pub labelled : IsLabel fs z k.label
  pub may_block : k.may_block ≡ (rep fs z == z && is_clear (block_of first fs z))

-- what is known of the nodes below n is so
pub record AreSound (first : ℕ) (fs : List (Fact ℕ)) (n : ℕ) (ks : List KnownNode) : Type 0 where
  pub enough : n ≤ length ks
  pub each : (z : ℕ) → z < n → IsSound first fs z (known_at ks z)

-- what is known of node x has its label
abbrev pub IsLabelKnown : List (Fact ℕ) → ℕ → List KnownNode → Type 0
IsLabelKnown fs x ks = (x < length ks) × IsLabel fs x (known_at ks x).label

-- the blocks of the nodes below n, and no others, are those of the facts
pub record IsFollowed (first : ℕ) (fs : List (Fact ℕ)) (n : ℕ) (p : Printed) : Type 0 where
  pub all_blocks : p.blocks ≡ blocks_to first fs n
  pub all_known : length p.known ≡ n
  pub sound : AreSound first fs n p.known

-- the blocks of the nodes below n are those of the facts
pub record AreBlocksBelow (first : ℕ) (fs : List (Fact ℕ)) (n : ℕ) (p : Printed) : Type 0 where
  pub within : n ≤ node_count_from first fs
  pub first_blocks : take n p.blocks ≡ blocks_to first fs n
  pub sound : AreSound first fs n p.known

-- the blocks that are there, maybe not of all nodes, are those of the facts
abbrev pub AreFirstBlocks : ℕ → List (Fact ℕ) → Printed → Type 0
AreFirstBlocks first fs p = AreBlocksBelow first fs (length p.blocks) p

-- the blocks are those of all nodes of the facts
abbrev pub IsCurrent : ℕ → List (Fact ℕ) → Printed → Type 0
IsCurrent first fs p = IsFollowed first fs (node_count_from first fs) p

-- ---- the least that may block

-- the block of node x by the first node of the list that may block it
abbrev pub blocked_among : List (Fact ℕ) → List Block → ℕ → List ℕ → Block
blocked_among fs blocks x [] = Clear
blocked_among fs blocks x (z ∷ zs) = if may_block fs blocks x z then By z else blocked_among fs blocks x zs

-- ---- a bound

-- a number below which no node blocks x but maybe some that are left; it blocks x itself, where it is less than x
pub record IsBound (fs : List (Fact ℕ)) (blocks : List Block) (x : ℕ) (left : List ℕ) (bound : ℕ) : Type 0 where
  pub within : bound ≤ x
  pub blocks_it : bound < x → may_block fs blocks x bound ≡ true
  pub none : (z : ℕ) → z < bound → is_among z left ≡ false → may_block fs blocks x z ≡ false
