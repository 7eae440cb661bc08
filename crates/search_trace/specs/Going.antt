-- Going back over open branchings, which are kept with the latest last.
use Rattle.std.specs.Prelude.{◌≡◌, ℕ, ◌≤◌, ◌==◌, ◌&&◌, not, if◌then◌else◌, Bool, true, false, List, [], ◌∷◌, ◌++◌, take}
use Rattle.std.specs.Prelude.{drop, filter, length, reverse, map}
use Rattle.std.specs.FinSet as sets
use Rattle.refutation_tree.specs.NumberSets.{NumberSet}
use Rattle.search_trace.specs.declared.lines.TraceLine.{TraceLine}
use Rattle.search_trace.specs.declared.opens.OpenBranching.{OpenBranching}
use Rattle.search_trace.specs.Lines.{stays}
use Rattle.search_trace.specs.Trace.{noted, ArePlaced, whole_marks, GoneBack, gone_back}

-- the branching stands before its child, and that among the first n lines
abbrev pub IsPlaced : ℕ → OpenBranching → Type 0
IsPlaced n o = (o.at ≤ o.child) × (o.child ≤ n)

-- one step back over a branching that does not turn: it is closed as a whole, or taken out
pub data Passes (o : OpenBranching) (ls : List TraceLine) (u : NumberSet) : List TraceLine → NumberSet → Type 0 where
  whole : sets.contains u o.mark ≡ true → o.left ≡ 0 → Passes o ls u ls (whole_marks o u)
  out : sets.contains u o.mark ≡ false → Passes o ls u (take o.at ls ++ filter (stays o.mark) (drop o.child ls)) u

-- the latest branching, if there is one, is to turn
abbrev pub Halts : List OpenBranching → NumberSet → Type 0
Halts os u = (older : List OpenBranching) (o : OpenBranching) → os ≡ older ++ o ∷ []
    → (sets.contains u o.mark ≡ true) × (¬ (o.left ≡ 0))

-- the branching is taken off the open ones, and does not turn
pub record IsTaken (opens less : List OpenBranching) (u : NumberSet) (o : OpenBranching) : Type 0 where
  pub taken : opens ≡ less ++ o ∷ []
  pub passes : sets.contains u o.mark ≡ true → o.left ≡ 0

-- where going back leads from here
abbrev pub going : List TraceLine → List OpenBranching → NumberSet → GoneBack
going ls os u = gone_back (map noted ls) (reverse os) u

-- going back has come as far as here
abbrev pub reached : List TraceLine → List OpenBranching → NumberSet → GoneBack
reached ls os u = record { lines = map noted ls; opens = reverse os; used = u }

-- what the loop keeps
pub record IsGoing (ls : List TraceLine) (os : List OpenBranching) (u : NumberSet) (now : List TraceLine)
    (left : List OpenBranching) (v : NumberSet) : Type 0 where
  pub placed : ArePlaced (length now) (reverse left)
  pub same : going now left v ≡ going ls os u

-- ---- whether it comes to a branching that turns

-- closing rests on the branching, which has an alternative left
abbrev pub turns_at : OpenBranching → NumberSet → Bool
turns_at o u = sets.contains u o.mark && not (o.left == 0)

-- the marks on which closing rests behind a branching that does not turn
abbrev pub passed_marks : OpenBranching → NumberSet → NumberSet
passed_marks o u = if sets.contains u o.mark then whole_marks o u else u

-- going back finds a branching at which the search turns
abbrev pub turns : List OpenBranching → NumberSet → Bool
turns [] u = false
turns (o ∷ os) u = if turns_at o u then true else turns os (passed_marks o u)
