-- A trace of lines that are still to be closed, as the open branchings from the latest back to the first.
use Rattle.std.specs.Prelude.{◌≡◌, List, [], ◌∷◌, ◌++◌, Option, Some}
use Rattle.search_trace.specs.Leaves.{leaves}

-- an open branching: the lines before it since the branch `from` of the branching before, the branch `at` where it
-- stands, its line, the children that are closed with their lines, the child that is open, and those that are left
pub record Frame (S L : Type 0) : Type 0 where
  pub before : List L
  pub at : S
  pub branching : L
  pub done : List S
  pub closed : List L
  pub kid : S
  pub left : List S

-- the branch where the lines behind the latest open branching begin
abbrev pub began : {S L : Type 0} → S → List (Frame S L) → S
began start [] = start
began start (f ∷ fs) = f.kid

-- the lines up to the child that is open
abbrev pub lines_of : {S L : Type 0} → List (Frame S L) → List L
lines_of [] = []
lines_of (f ∷ fs) = lines_of fs ++ (f.before ++ f.branching ∷ f.closed)

-- the branches that are left open, the latest first
abbrev pub lefts : {S L : Type 0} → List (Frame S L) → List S
lefts [] = []
lefts (f ∷ fs) = f.left ++ lefts fs

-- once the open child is closed by these lines, the next one is open
abbrev pub turned : {S L : Type 0} → Frame S L → List L → S → List S → Frame S L
turned f lines k ks = record {
  before = f.before;
  at = f.at;
  branching = f.branching;
  done = f.done ++ f.kid ∷ [];
  closed = f.closed ++ lines;
  kid = k;
  left = ks;
}

-- and where none is left, these lines close the child in which the branching stands
abbrev pub whole : {S L : Type 0} → Frame S L → List L → List L
whole f lines = f.before ++ f.branching ∷ (f.closed ++ lines)

module _ {S L : Type 0} (step : S → L → Option (List S)) where
  pub record IsOpen (from : S) (f : Frame S L) : Type 0 where
    pub leads : leaves step (from ∷ []) f.before ≡ Some (f.at ∷ [])
    pub branches : step f.at f.branching ≡ Some (f.done ++ f.kid ∷ f.left)
    pub closes : leaves step f.done f.closed ≡ Some []

  abbrev pub AreOpen : S → List (Frame S L) → Type 0
  AreOpen start [] = Unit {0}
  AreOpen start (f ∷ fs) = IsOpen (began start fs) f × AreOpen start fs
