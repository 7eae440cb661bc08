-- What the blocks of nodes depend on.
use Rattle.std.specs.Prelude.{◌≡◌, ℕ, ◌<◌, ◌≤◌, ◌⊎◌, List, [], ◌∷◌, ◌++◌}
use Rattle.calculus_specs.specs.declared.facts.Fact.{Fact}
use Rattle.calculus_specs.specs.declared.facts.Fact.TheVariants.{Has, Edge, Apart, Same}
use Rattle.calculus_specs.specs.Joins.{rep}
use Rattle.calculus_specs.specs.State.{parent_from, has, is_label_part, fresh_facts, HaveParentsBefore}
use Rattle.tableau_specs.specs.Blocked.{block_of}

-- the two lists of facts say the same of the nodes below n
pub record AgreeBelow (first : ℕ) (fs gs : List (Fact ℕ)) (n : ℕ) : Type 0 where
  pub parents : (x : ℕ) → x < n → parent_from first fs x ≡ parent_from first gs x
  pub reps : (x : ℕ) → x < n → rep fs x ≡ rep gs x
  pub labels : (x z : ℕ) → x < n → z < n → is_label_part fs x z ≡ is_label_part gs x z

-- facts that agree below a node give each node before it the same block
abbrev pub BlocksFollowWhatStandsBelow : Type 0
BlocksFollowWhatStandsBelow = (first : ℕ) (fs gs : List (Fact ℕ)) (n : ℕ) → HaveParentsBefore first fs
    → AgreeBelow first fs gs n → (x : ℕ) → x < n → block_of first fs x ≡ block_of first gs x

-- the fact changes no label, parent or representative of a node below n: a concept changes the label of a
-- representative, an edge may be the first into its end where that is no first node, and a joining changes two
-- representatives
abbrev pub LeavesBelow : ℕ → List (Fact ℕ) → Fact ℕ → ℕ → Type 0
LeavesBelow first fs (Has y c) n = n ≤ rep fs y
LeavesBelow first fs (Edge r y z) n = n ≤ z ⊎ z < first
LeavesBelow first fs (Apart y z) n = Unit {0}
LeavesBelow first fs (Same y z) n = (n ≤ rep fs y) × (n ≤ rep fs z)

-- one fact more that changes nothing below a node leaves the blocks of the nodes before it
abbrev pub OneFactLeavesBlocksBelow : Type 0
OneFactLeavesBlocksBelow = (first : ℕ) (fs : List (Fact ℕ)) (f : Fact ℕ) (n : ℕ) → HaveParentsBefore first fs
    → LeavesBelow first fs f n → (x : ℕ) → x < n → block_of first (fs ++ f ∷ []) x ≡ block_of first fs x

-- the same of facts that are put one after another
abbrev pub AllLeaveBelow : ℕ → List (Fact ℕ) → List (Fact ℕ) → ℕ → Type 0
AllLeaveBelow first fs [] n = Unit {0}
AllLeaveBelow first fs (f ∷ new) n = LeavesBelow first fs f n × AllLeaveBelow first (fs ++ f ∷ []) new n

-- facts more that change nothing below a node leave the blocks of the nodes before it
abbrev pub FactsLeaveBlocksBelow : Type 0
FactsLeaveBlocksBelow = (first : ℕ) (fs new : List (Fact ℕ)) (n : ℕ) → HaveParentsBefore first fs
    → AllLeaveBelow first fs new n → (x : ℕ) → x < n → block_of first (fs ++ new) x ≡ block_of first fs x

-- below n, what nodes have and which nodes are one stays as it is
abbrev pub FactsLeaveNodesBelow : Type 0
FactsLeaveNodesBelow = (first : ℕ) (fs new : List (Fact ℕ)) (n : ℕ) → AllLeaveBelow first fs new n → (x : ℕ) → x < n
    → (rep (fs ++ new) x ≡ rep fs x) × ((c : ℕ) → has (fs ++ new) x c ≡ has fs x c)

-- no node from n on is joined to one below
abbrev pub AreUnjoinedFrom : List (Fact ℕ) → ℕ → Type 0
AreUnjoinedFrom fs n = (v : ℕ) → n ≤ v → n ≤ rep fs v

-- new nodes leave the blocks of the old ones
abbrev pub NewNodesLeaveBlocks : Type 0
NewNodesLeaveBlocks = (first : ℕ) (fs : List (Fact ℕ)) (x s e n count : ℕ) → HaveParentsBefore first fs
    → AreUnjoinedFrom fs n → (z : ℕ) → z < n → block_of first (fs ++ fresh_facts x s e n count) z ≡ block_of first fs z

-- an edge to a first node leaves all blocks
abbrev pub EdgesToFirstLeaveBlocks : Type 0
EdgesToFirstLeaveBlocks = (first : ℕ) (fs : List (Fact ℕ)) (r y z : ℕ) → HaveParentsBefore first fs → z < first
    → (x : ℕ) → block_of first (fs ++ Edge r y z ∷ []) x ≡ block_of first fs x
