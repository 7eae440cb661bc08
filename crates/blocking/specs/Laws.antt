-- Which blocks stand when facts come and go.
use Rattle.std.specs.Prelude.{ℕ, ◌≤◌, min, List, ◌++◌}
use Rattle.calculus_specs.specs.declared.facts.Fact.{Fact}
use Rattle.calculus_specs.specs.State.{node_count_from, HaveParentsBefore}
use Rattle.tableau_specs.specs.BlockLaws.{AllLeaveBelow}
use Rattle.blocking.specs.Followed.{Printed, AreBlocksBelow, IsCurrent}

-- where new facts leave all below m
abbrev pub GoingOnKeepsBlocks : Type 0
GoingOnKeepsBlocks = (first : ℕ) (fs new : List (Fact ℕ)) (n m : ℕ) (p : Printed) → HaveParentsBefore first (fs ++ new)
    → AllLeaveBelow first fs new m
    → AreBlocksBelow first fs n p → AreBlocksBelow first (fs ++ new) (min n m) p

-- where facts that left all below m are taken back
abbrev pub GoingBackKeepsBlocks : Type 0
GoingBackKeepsBlocks = (first : ℕ) (fs new : List (Fact ℕ)) (n m : ℕ) (p : Printed)
    → HaveParentsBefore first (fs ++ new) → AllLeaveBelow first fs new m
    → AreBlocksBelow first (fs ++ new) n p → AreBlocksBelow first fs (min n (min m (node_count_from first fs))) p

-- what is current is so below each bound
abbrev pub CurrentIsBelow : Type 0
CurrentIsBelow = (first : ℕ) (fs : List (Fact ℕ)) (n : ℕ) (p : Printed) → IsCurrent first fs p
    → n ≤ node_count_from first fs → AreBlocksBelow first fs n p

-- and so it is with less
abbrev pub LessIsBelow : Type 0
LessIsBelow = (first : ℕ) (fs : List (Fact ℕ)) (n k : ℕ) (p : Printed) → AreBlocksBelow first fs n p → k ≤ n
    → AreBlocksBelow first fs k p

-- nothing has to be so below node 0
abbrev pub NothingIsBelow : Type 0
NothingIsBelow = (first : ℕ) (fs : List (Fact ℕ)) (p : Printed) → AreBlocksBelow first fs 0 p
