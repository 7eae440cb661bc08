-- What a list of smallest yes-sets and leaves says of the object that was asked.
use Rattle.std.specs.Prelude.{◌≡◌, ◌-◌, ◌++◌, true, false, List, length, cond}
use Rattle.std.specs.List.{Contains}
use Rattle.axiom_sets.specs.Sets.{Limited, IsWithin}
use Rattle.pinpointing_specs.specs.Smallest.{rest, IsMinimalYes, IsExplored}
use Rattle.pinpointing_specs.specs.Order.{IsAscending}
use Rattle.pinpointing_specs.specs.Nodes.{AreNodes, AreSettled}
use Rattle.set_questions.specs.Meaning.{Meaning}
use Rattle.set_questions.specs.InOrder.{HaveOneLimit}
use Rattle.hitting_set_tree.specs.declared.tree.Found.{Found}
use Rattle.hitting_set_tree.specs.Tree.{LacksSome, AreSettledOrOpen, ListsShown}

-- what a list of smallest yes-sets and leaves says: each of them was shown to be one
pub record IsFound (m : Meaning) (f : Found) : Type 0 where
  -- smallest yes-sets, in order, each of which was shown to be a yes-set
  pub order : IsAscending f.justifications.items
  pub just_limits : (j : Limited) → Contains f.justifications.items j → j.limit ≡ m.size
  pub smallest : (j : Limited) → Contains f.justifications.items j → IsMinimalYes m.holds j
  pub shown_yes : (j : Limited) → Contains f.justifications.items j → m.shown_yes j.members
  -- leaves are taken nodes whose rests are no yes-sets, which was shown
  pub leaf_limits : (l : Limited) → Contains f.leaves.items l → l.limit ≡ m.size
  pub leaf_taken : (l : Limited) → Contains f.leaves.items l → Contains m.taken l
  pub ends : (l : Limited) → Contains f.leaves.items l → IsWithin l.limit l.members × ¬ m.holds (rest l)
  pub shown_no : (l : Limited) → Contains f.leaves.items l → m.shown_no (rest l)
  pub limits : HaveOneLimit (f.justifications.items ++ f.leaves.items)
  -- the taken nodes are those of a hitting-set tree, and settled, the last one apart where the budget was spent
  pub nodes : AreNodes f.justifications.items m.taken
  pub settled : AreSettled f.justifications.items f.leaves.items m.taken
      (cond f.finished (length m.taken) (length m.taken - 1))
  -- a finished list is whole, and one that is not finished is not: nothing is told as partial that lacks nothing
  pub all : f.finished ≡ true → (s : Limited) → s.limit ≡ m.size → IsMinimalYes m.holds s
      → Contains f.justifications.items s
  pub explored : f.finished ≡ true → IsExplored m.holds m.size f.justifications.items f.leaves.items
  pub spent : f.finished ≡ false → m.left ≡ 0
  pub lacks : f.finished ≡ false → LacksSome f.justifications.items f.leaves.items
  pub left_open : f.finished ≡ false → AreSettledOrOpen m f.justifications.items f.leaves.items

-- each yes-set that was shown to be one meanwhile has a listed set as part; or, where the budget was spent, a yes-set
-- of which no answer says whether it is a smallest one
abbrev pub ListsAllShown : Meaning → Meaning → Found → Type 0
ListsAllShown m m' f = ListsShown m m' f.justifications.items f.finished

-- where memory was refused: the taken nodes are those of a hitting-set tree, whose labels are smallest yes-sets that
-- were shown to be yes-sets
pub record HasTree (m : Meaning) : Type 0 where
  pub labels : List Limited
  pub limits : (j : Limited) → Contains labels j → j.limit ≡ m.size
  pub smallest : (j : Limited) → Contains labels j → IsMinimalYes m.holds j
  pub shown_yes : (j : Limited) → Contains labels j → m.shown_yes j.members
  pub nodes : AreNodes labels m.taken
