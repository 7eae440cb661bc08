-- What the tree knows, and what is still to be looked at.
use Rattle.std.specs.Prelude.{◌≡◌, ◌⊎◌, ◌++◌, ◌∷◌, [], ℕ, ◌+◌, ◌<◌, ◌≤◌, true, false, Bool, List, length}
use Rattle.std.specs.Prelude.{slice_index_or}
use Rattle.std.specs.List.{Contains}
use Rattle.lane_sieve.specs.Sets.{NumberSet, IsPart}
use Rattle.axiom_sets.specs.Sets.{Limited, IsWithin}
use Rattle.pinpointing_specs.specs.Smallest.{rest, IsMinimalYes, HasPart, MeetsEach, IsExplored}
use Rattle.pinpointing_specs.specs.Nodes.{IsSettled}
use Rattle.set_questions.specs.InOrder.{AreInOrder}
use Rattle.set_questions.specs.Meaning.{Meaning}
use Rattle.set_questions.specs.declared.entail.Reply.{Reply}
use Rattle.set_questions.specs.declared.entail.Reply.TheVariants.{Yes, No, Spent}
use Rattle.justification_shrink.specs.Shrunk.{IsUndecided}
use Rattle.hitting_set_tree.specs.declared.frames.Frame.{Frame}
use Rattle.hitting_set_tree.specs.declared.frames.Node.{Node}
use Rattle.hitting_set_tree.specs.declared.tree.Tree.{Tree}
use Rattle.hitting_set_tree.specs.Territory.{IsFrame, InFrame, Frames}
use Rattle.hitting_set_tree.specs.Weight.{weight}

-- the lists that the tree keeps
pub record Lists : Type 0 where
  pub justifications : List Limited
  pub leaves : List Limited
  pub frames : List Frame

-- what the tree of the code keeps, as lists
abbrev pub lists : Tree → Lists
lists t = record { justifications = t.justifications.items; leaves = t.leaves.items; frames = t.frames.items }

-- the sets that were found are kept in their order too
abbrev pub IsOrdered : Tree → Type 0
IsOrdered t = AreInOrder t.justifications.items t.ordered.items

-- the lists with one frame more
abbrev pub with_frame : Lists → Frame → Lists
with_frame ls f = record { justifications = ls.justifications; leaves = ls.leaves; frames = ls.frames ++ f ∷ [] }

abbrev pub InFrames : List Frame → NumberSet → Type 0
InFrames fs t = (f : Frame) × Contains fs f × InFrame f t

-- each listed set is a smallest yes-set and was shown to be one, the rest of each leaf was shown to be none
pub record HoldsLists (m : Meaning) (ls : Lists) : Type 0 where
  pub just_limits : (j : Limited) → Contains ls.justifications j → j.limit ≡ m.size
  pub smallest : (j : Limited) → Contains ls.justifications j → IsMinimalYes m.holds j
  pub shown_yes : (j : Limited) → Contains ls.justifications j → m.shown_yes j.members
  pub leaf_limits : (l : Limited) → Contains ls.leaves l → l.limit ≡ m.size
  pub ends : (l : Limited) → Contains ls.leaves l → IsWithin l.limit l.members × ¬ m.holds (rest l)
  pub shown_no : (l : Limited) → Contains ls.leaves l → m.shown_no (rest l)
  pub frames : (f : Frame) → Contains ls.frames f → IsFrame m.size f

-- each of them is a frame
abbrev pub AreFrames : ℕ → List Frame → Type 0
AreFrames size frames = (f : Frame) → Contains frames f → IsFrame size f

-- the numbers that a node does not hit
abbrev pub others : Node → Limited
others node = record { limit = node.hit.limit; members = rest node.hit }

-- a set was put last, and the frame of a node that it labels, and all frames count as taken
pub record AddsLabel (old new : Lists) (rooted : ℕ) (node : Node) (just : Limited) : Type 0 where
  pub frame : Frame
  pub stands : Frames node just frame
  pub justifications : new.justifications ≡ old.justifications ++ just ∷ []
  pub leaves : new.leaves ≡ old.leaves
  pub frames : new.frames ≡ old.frames ++ frame ∷ []
  pub all : rooted ≡ length new.frames

-- a node was put last among the leaves, and all frames count as taken
pub record AddsLeaf (old new : Lists) (rooted : ℕ) (node : Node) : Type 0 where
  pub justifications : new.justifications ≡ old.justifications
  pub leaves : new.leaves ≡ old.leaves ++ node.hit ∷ []
  pub frames : new.frames ≡ old.frames
  pub all : rooted ≡ length new.frames

-- a set that meets each listed one has a leaf as part, or is still to be looked at
abbrev pub IsCovered : Lists → (NumberSet → Type 0) → Type 0
IsCovered ls beside = (t : NumberSet) → MeetsEach ls.justifications t
    → HasPart ls.leaves t ⊎ (InFrames ls.frames t ⊎ beside t)

-- the lists are not whole: some set meets each listed one and has no leaf as part
abbrev pub LacksSome : List Limited → List Limited → Type 0
LacksSome justifications leaves = (t : NumberSet) × MeetsEach justifications t × (¬ HasPart leaves t)

-- no listed set is dropped
abbrev pub KeepsAll : List Limited → List Limited → Type 0
KeepsAll old new = (j : Limited) → Contains old j → Contains new j

-- each taken node is settled, or its rest is a yes-set, or no answer about its rest is remembered: none is passed over
-- of which it was shown that it is a leaf
abbrev pub AreSettledOrOpen : Meaning → List Limited → List Limited → Type 0
AreSettledOrOpen m justifications leaves = (k : ℕ) (d : Limited) → k < length m.taken
    → IsSettled justifications leaves (slice_index_or m.taken k d)
    ⊎ (m.holds (rest (slice_index_or m.taken k d)) ⊎ m.unknown (rest (slice_index_or m.taken k d)))

-- the set has a listed set as part; or, where the budget was spent, a yes-set of which no answer says whether it is a
-- smallest one
abbrev pub HasFoundIn : Meaning → List Limited → NumberSet → Bool → Type 0
HasFoundIn m justifications s true = HasPart justifications s
HasFoundIn m justifications s false = HasPart justifications s
    ⊎ ((kept : Limited) × IsPart kept.members s × IsUndecided m kept)

-- where the answer is yes, the set that it names has a listed set as part, or the budget was spent
abbrev pub HasFoundNamed : Meaning → List Limited → Reply → Bool → Type 0
HasFoundNamed m justifications (Yes part) went_on = HasFoundIn m justifications part.members went_on
HasFoundNamed m justifications No went_on = Unit {0}
HasFoundNamed m justifications Spent went_on = Unit {0}

-- nothing is lost of what was shown from m to m'
abbrev pub ListsShown : Meaning → Meaning → List Limited → Bool → Type 0
ListsShown m m' justifications went_on = (s : NumberSet) → m'.shown_yes s
    → m.shown_yes s ⊎ HasFoundIn m' justifications s went_on

-- no test ended from m to m' because the budget was spent, unless that is told
abbrev pub LooksInBudget : Meaning → Meaning → Bool → Type 0
LooksInBudget m m' true = m'.ran_out ≡ m.ran_out
LooksInBudget m m' false = Unit {0}

-- the same after an answer: if it was that the budget is spent, that is told
abbrev pub SettlesInBudget : Meaning → Meaning → Reply → Bool → Type 0
SettlesInBudget m m' (Yes part) went_on = LooksInBudget m m' went_on
SettlesInBudget m m' No went_on = LooksInBudget m m' went_on
SettlesInBudget m m' Spent went_on = went_on ≡ false

-- the same where memory was refused, which never happens after the answer that the budget is spent
abbrev pub FailsInBudget : Meaning → Meaning → Reply → Type 0
FailsInBudget m m' (Yes part) = m'.ran_out ≡ m.ran_out
FailsInBudget m m' No = m'.ran_out ≡ m.ran_out
FailsInBudget m m' Spent = ⊥

-- so it is by this node
abbrev pub IsOutstanding : Lists → Node → Type 0
IsOutstanding ls node = MeetsEach ls.justifications node.hit.members × (¬ HasPart ls.leaves node.hit.members)

-- what a look at a node or a frame does, which stands for the sets `beside` and weighs `heavy`: where the budget
-- sufficed, the lists take these sets over, and weigh less
pub record IsStep (m : Meaning) (old new : Lists) (beside : NumberSet → Type 0) (heavy : ℕ) (went_on : Bool) :
    Type 0 where
  pub listed : HoldsLists m new
  pub covered : went_on ≡ true → IsCovered old beside → IsCovered new (λ _. ⊥)
  pub lighter : went_on ≡ true → weight new.frames + 1 ≤ weight old.frames + heavy
  pub spent : went_on ≡ false → m.left ≡ 0
  pub lacks : went_on ≡ false → LacksSome new.justifications new.leaves
  pub left_open : went_on ≡ false → AreSettledOrOpen m new.justifications new.leaves
  pub grows : KeepsAll old.justifications new.justifications

-- what the lists are in the end: explored, or not whole, and nothing is left of the budget
pub record IsGrown (m : Meaning) (ls : Lists) (finished : Bool) : Type 0 where
  pub listed : HoldsLists m ls
  pub explored : finished ≡ true → IsExplored m.holds m.size ls.justifications ls.leaves
  pub spent : finished ≡ false → m.left ≡ 0
  pub lacks : finished ≡ false → LacksSome ls.justifications ls.leaves
  pub left_open : finished ≡ false → AreSettledOrOpen m ls.justifications ls.leaves
