-- Which nodes were taken, and why none is taken twice: no taken set is still to be looked at.
use Rattle.std.specs.Prelude.{◌≡◌, ℕ, ◌+◌, ◌-◌, ◌*◌, ◌<◌, ◌≤◌, true, false, Bool, List, length, take, slice_index_or}
use Rattle.std.specs.Prelude.{cond}
use Rattle.std.specs.FinSet as set
use Rattle.std.specs.List.{Contains}
use Rattle.lane_sieve.specs.Sets.{NumberSet}
use Rattle.axiom_sets.specs.Sets.{Limited}
use Rattle.pinpointing_specs.specs.Nodes.{IsChild, IsTree, AreNodes, AreSettled}
use Rattle.set_questions.specs.Meaning.{Meaning}
use Rattle.hitting_set_tree.specs.declared.frames.Frame.{Frame}
use Rattle.hitting_set_tree.specs.declared.frames.Node.{Node}
use Rattle.hitting_set_tree.specs.Territory.{InNode, InScope, InFrame}
use Rattle.hitting_set_tree.specs.Tree.{Lists}

-- how a node stands on the frames below it, where `scope` has the node's sets: they are none of a frame's, the node
-- hits more than each frame does, and it is a child of the last one
pub record Stands (below : List Frame) (hit : Limited) (scope : NumberSet → Type 0) : Type 0 where
  pub apart : (g : Frame) → Contains below g → (t : NumberSet) → scope t → ¬ InFrame g t
  pub more : (g : Frame) → Contains below g
      → (k : ℕ) × (set.contains hit.members k ≡ true) × (set.contains g.hit.members k ≡ false)
  pub root : length below ≡ 0 → hit.members ≡ set.empty
  pub child : (d : Frame) → 0 < length below
      → IsChild (slice_index_or below (length below - 1) d).hit (slice_index_or below (length below - 1) d).label hit

-- each frame stands on those before it
abbrev pub IsBuilt : List Frame → Type 0
IsBuilt fs = (i : ℕ) (d : Frame) → i < length fs
    → Stands (take i fs) (slice_index_or fs i d).hit (InScope (slice_index_or fs i d))

-- between two looks: the nodes of the first `rooted` frames were taken, and all taken nodes are settled; none of the
-- others is, nor is a set that is still to be looked at
pub record IsOpen (taken : List Limited) (ls : Lists) (rooted : ℕ) (label : ℕ → Limited) : Type 0 where
  pub tree : IsTree ls.justifications taken label
  pub leaf_taken : (l : Limited) → Contains ls.leaves l → Contains taken l
  pub settled : AreSettled ls.justifications ls.leaves taken (length taken)
  pub rooted_within : rooted ≤ length ls.frames
  pub built : IsBuilt ls.frames
  pub labels : (f : Frame) → Contains ls.frames f → Contains ls.justifications f.label
  pub ahead : (f : Frame) → Contains ls.frames f → (t : Limited) → Contains taken t → ¬ InFrame f t.members
  pub fresh : (i : ℕ) (d : Frame) → rooted ≤ i → i < length ls.frames → (t : Limited) → Contains taken t
      → ¬ InScope (slice_index_or ls.frames i d) t.members
  pub placed : (i : ℕ) (d : Frame) (e : Limited) → i < rooted
      → (p : ℕ) × (p < length taken) × (slice_index_or taken p e ≡ (slice_index_or ls.frames i d).hit)
      × (label p ≡ (slice_index_or ls.frames i d).label)

-- a node that is looked at beside the frames
pub record IsBeside (taken : List Limited) (frames : List Frame) (node : Node) : Type 0 where
  pub stands : Stands frames node.hit (InNode node)
  pub fresh : (t : Limited) → Contains taken t → ¬ InNode node t.members

-- the node was taken last, and is not settled yet
pub record IsPending (taken : List Limited) (ls : Lists) (node : Node) (label : ℕ → Limited) : Type 0 where
  pub tree : IsTree ls.justifications taken label
  pub leaf_taken : (l : Limited) → Contains ls.leaves l → Contains taken l
  pub some : 0 < length taken
  pub last : (d : Limited) → slice_index_or taken (length taken - 1) d ≡ node.hit
  pub settled : AreSettled ls.justifications ls.leaves taken (length taken - 1)
  pub built : IsBuilt ls.frames
  pub labels : (f : Frame) → Contains ls.frames f → Contains ls.justifications f.label
  pub ahead : (f : Frame) → Contains ls.frames f → (t : Limited) → Contains taken t → ¬ InFrame f t.members
  pub placed : (i : ℕ) (d : Frame) (e : Limited) → i < length ls.frames
      → (p : ℕ) × (p + 1 < length taken) × (slice_index_or taken p e ≡ (slice_index_or ls.frames i d).hit)
      × (label p ≡ (slice_index_or ls.frames i d).label)
  pub stands : Stands ls.frames node.hit (InNode node)
  pub fresh : (t : Limited) → Contains taken t → InNode node t.members → t.members ≡ node.hit.members

-- at any time: all taken nodes are settled, the last one apart
pub record IsEnded (taken : List Limited) (ls : Lists) : Type 0 where
  pub nodes : AreNodes ls.justifications taken
  pub leaf_taken : (l : Limited) → Contains ls.leaves l → Contains taken l
  pub settled : AreSettled ls.justifications ls.leaves taken (length taken - 1)

-- some labelling of the nodes shows which are still open
abbrev pub HasOpen : List Limited → Lists → ℕ → Type 0
HasOpen taken ls rooted = (label : ℕ → Limited) × IsOpen taken ls rooted label

-- some labelling of the nodes shows that the node is still to be looked at
abbrev pub HasPending : List Limited → Lists → Node → Type 0
HasPending taken ls node = (label : ℕ → Limited) × IsPending taken ls node label

-- after a look, by whether the budget sufficed
abbrev pub StaysOpen : List Limited → Lists → ℕ → Bool → Type 0
StaysOpen taken ls rooted true = HasOpen taken ls rooted
StaysOpen taken ls rooted false = IsEnded taken ls

-- the frames' nodes and the node were taken; or nothing is left, and all taken nodes are settled
abbrev pub TakesPath : Meaning → Lists → Node → Bool → Type 0
TakesPath m ls node true = HasPending m.taken ls node
TakesPath m ls node false = IsEnded m.taken ls × (m.left ≡ 0)
    × AreSettled ls.justifications ls.leaves m.taken (length m.taken)

-- in the end all taken nodes are settled where the budget sufficed
abbrev pub Closes : List Limited → Lists → Bool → Type 0
Closes taken ls finished = AreNodes ls.justifications taken × ((l : Limited) → Contains ls.leaves l → Contains taken l)
    × AreSettled ls.justifications ls.leaves taken (cond finished (length taken) (length taken - 1))

-- from m to m' no more than size + 1 asks were made for each node that was taken
abbrev pub AsksFew : ℕ → Meaning → Meaning → Type 0
AsksFew size m m' = m'.asks + (size + 1) * length m.taken ≤ m.asks + (size + 1) * length m'.taken
