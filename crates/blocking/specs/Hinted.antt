-- What is known of nodes when their blocks were found last, and what it says of their blocks now.
use Rattle.std.specs.Prelude.{◌≡◌, ℕ, ◌%◌, ◌<◌, ◌==◌, nat_lt, ◌&&◌, Bool, true, false, List, [], ◌∷◌, ◌++◌, length}
use Rattle.std.specs.Prelude.{get_or}
use Rattle.std.specs.Prelude.{slice_set, ◌⊎◌, if◌then◌else◌}
use Rattle.std.specs.List.{list_any, list_all}
use Rattle.std.specs.FinSet as set
use Rattle.lane_sieve.specs.Sets.{number_set}
use Rattle.tableau_specs.specs.declared.Block.{Block}
use Rattle.tableau_specs.specs.declared.Block.TheVariants.{Clear, By, Under}

-- what a node had, whether it was a clear representative, and its block as a hint: Under says nothing
pub record KnownNode : Type 0 where
  pub label : List ℕ
  pub may_block : Bool
  pub hint : Block

-- what is known of a node: its label, whether it may block, and its block
abbrev pub known_of : List ℕ → Bool → Block → KnownNode
known_of label may_block hint = record { label = label; may_block = may_block; hint = hint }

-- what is known of a node that was not looked at
abbrev pub nothing_known : KnownNode
nothing_known = known_of [] false Under

-- what is known of a node
abbrev pub known_at : List KnownNode → ℕ → KnownNode
known_at ks z = get_or ks z nothing_known

-- the number is one of these
abbrev pub is_among : ℕ → List ℕ → Bool
is_among c cs = list_any (λ d. d == c) cs

-- whether a node blocks each later one with these concepts
abbrev pub covers : KnownNode → List ℕ → Bool
covers k label = k.may_block && list_all (λ c. is_among c k.label) label

-- ---- hints

-- what a hint says of a node x with these concepts, of all nodes but some
abbrev pub IsHint : List KnownNode → List ℕ → ℕ → List ℕ → Block → Type 0
IsHint ks but x label Clear = (z : ℕ) → z < x → is_among z but ≡ false → covers (known_at ks z) label ≡ false
IsHint ks but x label (By y) =
    (y < x) × (is_among y but ≡ false → covers (known_at ks y) label ≡ true)
    × ((z : ℕ) → z < y → is_among z but ≡ false → covers (known_at ks z) label ≡ false)
IsHint ks but x label Under = Unit {0}

-- what the hint at a node says of it, of all nodes but some
abbrev pub IsHintAt : List KnownNode → List ℕ → ℕ → Type 0
IsHintAt ks but x = IsHint ks but x (known_at ks x).label (known_at ks x).hint

-- a number below which no node blocks x but maybe one of some: that of the node that blocks it, or its own
abbrev pub IsHintBound : List KnownNode → List ℕ → ℕ → List ℕ → ℕ → Type 0
IsHintBound ks but x label b =
    ((b ≡ x) × IsHint ks but x label Clear) ⊎ ((is_among b but ≡ false) × IsHint ks but x label (By b))

-- the hints of all nodes are so, of all nodes but some
abbrev pub AreHints : List KnownNode → List ℕ → Type 0
AreHints ks but = (x : ℕ) → x < length ks → IsHintAt ks but x

-- those of the nodes below n are so of all nodes
abbrev pub AreExact : List KnownNode → ℕ → Type 0
AreExact ks n = (x : ℕ) → x < n → IsHintAt ks [] x

-- ---- prints

-- where a node with these concepts may block others, each of them has its bit in the print
pub record IsShown (may_block : Bool) (label : List ℕ) (print : List ℕ) : Type 0 where
  pub words : length print ≡ 4
  pub shows : may_block ≡ true → (c : ℕ) → is_among c label ≡ true
      → set.contains (number_set print) (c % 256) ≡ true

-- the print of each node that is known shows its label, where the node may block others
abbrev pub AreShown : List KnownNode → List (List ℕ) → Type 0
AreShown ks prints =
    (z : ℕ) → z < length ks → IsShown (known_at ks z).may_block (known_at ks z).label (get_or prints z [])

-- ---- what is kept

-- what is known of the nodes from 0 on, their prints, and the nodes that changed since the hints were found
pub record HintLists : Type 0 where
  pub known : List KnownNode
  pub prints : List (List ℕ)
  pub changed : List ℕ

-- nothing is known of any node yet
abbrev pub no_hints : HintLists
no_hints = record { known = []; prints = []; changed = [] }

-- with this of one node, in place of what was known of it or behind all others
abbrev pub known_with : List KnownNode → ℕ → KnownNode → List KnownNode
known_with ks n k = if nat_lt n (length ks) then slice_set ks n k else ks ++ k ∷ []
