-- The nodes of the frames are taken from the root down, and then the node beside them.
use Rattle.std.proofs.Common.{◌≡◌, ℕ, ◌+◌, ◌<◌, ◌≤◌, ◌∷◌, [], List, length, get_or, Bool, true, false, sym, ap, ◌∙◌}
use Rattle.std.proofs.Common.{subst, arith, length-append}
use Rattle.std.specs.List.{Contains}
use Rattle.axiom_sets.specs.Sets.{Limited}
use Rattle.pinpointing_specs.specs.Nodes.{AreSettled}
use Rattle.set_questions.specs.Meaning.{Meaning, Keeps}
use Rattle.set_questions.specs.Asked.{Takes}
use Rattle.hitting_set_tree.specs.declared.frames.Frame.{Frame}
use Rattle.hitting_set_tree.specs.declared.frames.Node.{Node}
use Rattle.hitting_set_tree.specs.Territory.{IsNode, IsFrame}
use Rattle.hitting_set_tree.specs.Tree.{Lists}
use Rattle.hitting_set_tree.specs.Open.{HasOpen, HasPending, IsBeside, IsEnded, TakesPath}
use Rattle.hitting_set_tree.proofs.Opening.{has_taken_frame, beside_still, taken_node, ended}

-- a node that was not taken, since nothing is left
pub nothing_left : (m m' : Meaning) (ls : Lists) (r : ℕ) (hit : Limited) → Keeps m m' → HasOpen m.taken ls r
    → Takes m m' hit false
    → IsEnded m'.taken ls × (m'.left ≡ 0) × AreSettled ls.justifications ls.leaves m'.taken (length m'.taken)
nothing_left m m' ls r hit keeps state takes = (
  subst (λ (t : List Limited). IsEnded t ls) (sym takes.1) (ended m.taken ls r state.0 state.1),
  omega (arith, keeps.left_falls, takes.0),
  subst (λ (t : List Limited). AreSettled ls.justifications ls.leaves t (length t)) (sym takes.1) state.1.settled,
)

-- the next frame's node was taken
module _ (m m' : Meaning) (n : ℕ) (ls : Lists) (r : ℕ) (d : Frame) (state : HasOpen m.taken ls r)
    (frames : (f : Frame) → Contains ls.frames f → IsFrame n f) (lt : r < length ls.frames)
    (takes : Takes m m' (get_or ls.frames r d).hit true) where
  pub path_open : HasOpen m'.taken ls (r + 1)
  path_open =
      subst (λ (t : List Limited). HasOpen t ls (r + 1)) (sym takes.2)
      (has_taken_frame n m.taken ls r state.0 d state.1 frames lt)

  pub path_beside : (node : Node) → IsBeside m.taken ls.frames node → IsBeside m'.taken ls.frames node
  path_beside node beside =
      subst (λ (t : List Limited). IsBeside t ls.frames node) (sym takes.2)
      (beside_still n m.taken ls r state.0 d state.1 frames lt node beside)

-- the node beside the frames, after theirs
pub path_last : (m m' : Meaning) (n : ℕ) (ls : Lists) (r : ℕ) (node : Node) (taken : Bool) → Keeps m m'
    → HasOpen m.taken ls r → r ≡ length ls.frames → IsBeside m.taken ls.frames node → IsNode n node
    → Takes m m' node.hit taken → TakesPath m' ls node taken
path_last m m' n ls r node true keeps state all beside good takes =
    subst (λ (t : List Limited). HasPending t ls node) (sym takes.2)
    (state.0, taken_node n m.taken ls r state.0 node state.1 all beside good)
path_last m m' n ls r node false keeps state all beside good takes = nothing_left m m' ls r node.hit keeps state takes

pub one_longer : (m m' : Meaning) (hit : Limited) → Takes m m' hit true → length m'.taken ≡ length m.taken + 1
one_longer m m' hit takes = ap length takes.2 ∙ length-append m.taken (hit ∷ [])

pub no_shorter : (m m' : Meaning) (hit : Limited) (taken : Bool) → Takes m m' hit taken
    → length m.taken ≤ length m'.taken
no_shorter m m' hit true takes = omega (arith, one_longer m m' hit takes)
no_shorter m m' hit false takes = omega (arith, ap length takes.1)
