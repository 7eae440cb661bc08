-- The nodes of a hitting-set tree.
use Rattle.std.specs.Prelude.{◌≡◌, ◌⊎◌, ℕ, ◌<◌, true, List, length, slice_index_or}
use Rattle.std.specs.FinSet as set
use Rattle.std.specs.List.{Contains}
use Rattle.axiom_sets.specs.Sets.{Limited}
use Rattle.pinpointing_specs.specs.Smallest.{AreApart}

-- a member of the node's label, which is apart from the node, was put into it
pub record IsChild (node label child : Limited) : Type 0 where
  pub apart : AreApart label.members node.members
  pub number : ℕ
  pub of_label : set.contains label.members number ≡ true
  pub grown : child.members ≡ set.insert node.members number

-- different nodes, the empty set first, of which each other one is the child of an earlier one by that node's label, a
-- listed set; `label` gives it by the node's place
pub record IsTree (listed nodes : List Limited) (label : ℕ → Limited) : Type 0 where
  pub distinct : (i j : ℕ) (d : Limited) → i < j → j < length nodes
      → ¬ (slice_index_or nodes i d ≡ slice_index_or nodes j d)
  pub root : (d : Limited) → 0 < length nodes → (slice_index_or nodes 0 d).members ≡ set.empty
  pub parent : (k : ℕ) (d : Limited) → 0 < k → k < length nodes
      → (i : ℕ) × (i < k) × Contains listed (label i)
      × IsChild (slice_index_or nodes i d) (label i) (slice_index_or nodes k d)

-- each node can be given one label so that this holds
abbrev pub AreNodes : List Limited → List Limited → Type 0
AreNodes listed nodes = (label : ℕ → Limited) × IsTree listed nodes label

-- the node is a leaf, or apart from a listed set
abbrev pub IsSettled : List Limited → List Limited → Limited → Type 0
IsSettled listed leaves node = Contains leaves node
    ⊎ ((j : Limited) × Contains listed j × AreApart j.members node.members)

-- each of the first `count` nodes is settled
abbrev pub AreSettled : List Limited → List Limited → List Limited → ℕ → Type 0
AreSettled listed leaves nodes count = (k : ℕ) (d : Limited) → k < count → k < length nodes
    → IsSettled listed leaves (slice_index_or nodes k d)
