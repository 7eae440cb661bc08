-- Which sets are still to be looked at.
use Rattle.std.specs.Prelude.{◌≡◌, ◌⊎◌, ℕ, ◌+◌, ◌≤◌, true, false}
use Rattle.std.specs.FinSet as set
use Rattle.lane_sieve.specs.Sets.{NumberSet, IsPart, DoMeet}
use Rattle.axiom_sets.specs.Sets.{Limited}
use Rattle.pinpointing_specs.specs.Smallest.{AreApart}
use Rattle.pinpointing_specs.specs.Nodes.{IsChild}
use Rattle.hitting_set_tree.specs.declared.frames.Frame.{Frame}
use Rattle.hitting_set_tree.specs.declared.frames.Node.{Node}
use Rattle.hitting_set_tree.specs.declared.frames.Look.{Look}
use Rattle.hitting_set_tree.specs.declared.frames.Look.TheVariants.{Done, Child}
use Rattle.hitting_set_tree.specs.Weight.{node_weight, frame_weight}

-- the sets with all that a node hits and nothing that it bars
abbrev pub InNode : Node → NumberSet → Type 0
InNode n t = IsPart n.hit.members t × AreApart n.barred.members t

-- the sets with all that a frame hits and no barred number but those ahead: those of the frame's node
abbrev pub InScope : Frame → NumberSet → Type 0
InScope f t = IsPart f.hit.members t
    × ((k : ℕ) → set.contains f.barred.members k ≡ true → set.contains f.ahead.members k ≡ false
    → set.contains t k ≡ false)

-- those of them with a number ahead
abbrev pub InFrame : Frame → NumberSet → Type 0
InFrame f t = InScope f t × DoMeet f.ahead.members t

-- a node: its numbers are within the limit, and none that it hits is barred
pub record IsNode (limit : ℕ) (n : Node) : Type 0 where
  pub hit_limit : n.hit.limit ≡ limit
  pub barred_limit : n.barred.limit ≡ limit
  pub apart : AreApart n.hit.members n.barred.members

-- a node whose branches are gone through: those ahead are barred, and belong to its label
pub record IsFrame (limit : ℕ) (f : Frame) : Type 0 where
  pub hit_limit : f.hit.limit ≡ limit
  pub barred_limit : f.barred.limit ≡ limit
  pub ahead_limit : f.ahead.limit ≡ limit
  pub apart : AreApart f.hit.members f.barred.members
  pub ahead_barred : IsPart f.ahead.members f.barred.members
  pub label_apart : AreApart f.label.members f.hit.members
  pub ahead_label : IsPart f.ahead.members f.label.members

-- the frame of a node with a label that is apart from the node: it stands for the node's sets that meet the label
pub record Frames (n : Node) (label : Limited) (f : Frame) : Type 0 where
  pub good : IsFrame n.hit.limit f
  pub same_hit : f.hit ≡ n.hit
  pub same_label : f.label ≡ label
  pub opens : (t : NumberSet) → InNode n t → DoMeet label.members t → InFrame f t
  pub inside : (t : NumberSet) → InScope f t → InNode n t
  pub lighter : frame_weight f + 1 ≤ node_weight n

-- a child of a frame, and what is left of the frame: the two share what the frame stood for
pub record IsNextChild (f left : Frame) (n : Node) : Type 0 where
  pub good : IsFrame f.hit.limit left
  pub node_good : IsNode f.hit.limit n
  pub same_hit : left.hit ≡ f.hit
  pub same_label : left.label ≡ f.label
  pub child : IsChild f.hit f.label n.hit
  pub splits : (t : NumberSet) → InFrame f t → InFrame left t ⊎ InNode n t
  pub shared : (t : NumberSet) → InNode n t → ¬ InFrame left t
  pub node_inside : (t : NumberSet) → InNode n t → InFrame f t
  pub left_inside : (t : NumberSet) → InScope left t → InScope f t
  pub ahead_inside : IsPart left.ahead.members f.ahead.members
  pub lighter : node_weight n + frame_weight left ≤ frame_weight f

-- what the look for a child of a frame finds: none, and the frame stands for no set; or one
abbrev pub Looks : Frame → Frame → Look → Type 0
Looks f left Done = (t : NumberSet) → ¬ InFrame f t
Looks f left (Child n) = IsNextChild f left n
