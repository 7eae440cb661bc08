-- Where the open branchings stand in the flat list of lines.
use Rattle.std.specs.Prelude.{◌≡◌, ℕ, ◌+◌, ◌≤◌, ◌==◌, not, List, [], ◌∷◌, ◌++◌, map, filter, length, take, drop}
use Rattle.std.specs.List.{list_any}
use Rattle.std.specs.FinSet as sets
use Rattle.refutation_tree.specs.NumberSets.{NumberSet}
use Rattle.calculus_specs.specs.Shape.{Shape}
use Rattle.calculus_specs.specs.Rules.{Question}
use Rattle.search_trace.specs.Premises.{Added}
use Rattle.search_trace.specs.Frames.{lines_of}
use Rattle.search_trace.specs.Noted.{Noted, NotedLine, rests_on, strip}
use Rattle.search_trace.specs.Trail.{MarkedFact}
use Rattle.search_trace.specs.Back.{Branching, frames_of, mark_of, AreBranchings, Closes}
use Rattle.search_trace.specs.Honest.{Tracing, trace_of, IsHonest}

-- what a search keeps of an open branching: the number of its line, the place of this line, where its open child
-- begins, the marks on which the closing of its closed children rests, the marks of its line, the facts of the trail
-- before its mark, and what the alternatives that are left add
pub record Place : Type 0 where
  pub mark : ℕ
  pub at : ℕ
  pub child : ℕ
  pub gathered : NumberSet
  pub marks : NumberSet
  pub facts : List MarkedFact
  pub rest : List Added

-- the place tells where an open branching stands in the list of lines, and what belongs to it
pub record IsPlaceOf (bs : List Branching) (b : Branching) (p : Place) : Type 0 where
  pub mark : p.mark ≡ mark_of b
  pub at : p.at ≡ length (lines_of (frames_of bs) ++ b.frame.before)
  pub child : p.child ≡ length (lines_of (frames_of (b ∷ bs)))
  pub gathered : p.gathered ≡ b.gathered
  pub marks : p.marks ≡ b.frame.branching.marks
  pub facts : p.facts ≡ b.facts
  pub rest : p.rest ≡ b.rest

-- each open branching has its place, in the same order
abbrev pub ArePlaces : List Branching → List Place → Type 0
ArePlaces [] [] = Unit {0}
ArePlaces [] (p ∷ ps) = ⊥
ArePlaces (b ∷ bs) [] = ⊥
ArePlaces (b ∷ bs) (p ∷ ps) = IsPlaceOf bs b p × ArePlaces bs ps

-- the place of a branching that is opened behind these lines
abbrev pub opened_place : List NotedLine → List MarkedFact → NotedLine → List Added → Place
opened_place lines ms l rest = record {
  mark = l.number;
  at = length lines;
  child = length lines + 1;
  gathered = sets.empty;
  marks = l.marks;
  facts = ms;
  rest = rest;
}

-- the place of a branching that turns to its next alternative, behind these lines
abbrev pub turned_place : Place → List NotedLine → NumberSet → List Added → Place
turned_place p lines u rest = record {
  mark = p.mark;
  at = p.at;
  child = length lines;
  gathered = sets.union p.gathered u;
  marks = p.marks;
  facts = p.facts;
  rest = rest;
}

-- the marks on which the closing of a whole branching rests
abbrev pub place_marks : Place → NumberSet → NumberSet
place_marks p u = sets.union (sets.union p.gathered u) p.marks

-- the flat list once a branching is taken out: its open child stands in its place, without the lines that rest on its
-- mark
abbrev pub without_place : Place → List NotedLine → List NotedLine
without_place p lines = take p.at lines ++ strip p.mark (drop p.child lines)

module _ (q : Question) (table : List Shape) (start : Noted) where
  -- the lines are the trace of a search whose open branchings, latest first, and whose trail are these
  pub record IsTraced (lines : List NotedLine) (ps : List Place) (ms : List MarkedFact) : Type 0 where
    pub tracing : Tracing
    pub is_honest : IsHonest q table start tracing
    pub lines_are : trace_of tracing ≡ lines
    pub are_places : ArePlaces tracing.branchings ps
    pub facts_are : tracing.facts ≡ ms

  -- the lines are such a trace in which the open child of the latest branching is closed, and that rests on marks in u
  pub record IsClosing (lines : List NotedLine) (ps : List Place) (u : NumberSet) : Type 0 where
    pub branchings : List Branching
    pub are_branchings : AreBranchings q table start branchings
    pub last : List NotedLine
    pub closes : Closes q table start branchings last u
    pub lines_are : lines_of (frames_of branchings) ++ last ≡ lines
    pub are_places : ArePlaces branchings ps

-- the numbers ascend strictly, from a first one on
abbrev pub Ascend : ℕ → List NotedLine → Type 0
Ascend n [] = Unit {0}
Ascend n (l ∷ ls) = (n ≤ l.number) × Ascend (l.number + 1) ls

-- the numbers of the lines that rest on the mark
abbrev pub resting : ℕ → List NotedLine → List ℕ
resting m ls = map (λ l. l.number) (filter (rests_on m) ls)

-- the lines whose numbers are not among these
abbrev pub others : List ℕ → List NotedLine → List NotedLine
others ns ls = filter (λ l. not (list_any (λ n. n == l.number) ns)) ls
