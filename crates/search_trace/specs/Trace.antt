-- What a trace keeps of a search: its lines, each with the marks that it rests on, and the branchings that are open.
use Rattle.std.specs.Prelude.{ℕ, ◌+◌, ◌-◌, ◌==◌, ◌≤◌, Bool, true, false, List, [], ◌∷◌, ◌++◌, length, take, drop, map}
use Rattle.std.specs.Prelude.{if◌then◌else◌}
use Rattle.std.specs.FinSet as sets
use Rattle.refutation_tree.specs.NumberSets.{NumberSet}
use Rattle.calculus_specs.specs.Line.{Line}
use Rattle.refutation_tree.specs.RuleLine.{line_of}
use Rattle.search_trace.specs.Noted.{NotedLine, strip}
use Rattle.search_trace.specs.declared.lines.TraceLine.{TraceLine}
use Rattle.search_trace.specs.declared.opens.OpenBranching.{OpenBranching}
use Rattle.search_trace.specs.declared.opens.Back.{Back}
use Rattle.search_trace.specs.declared.opens.Back.TheVariants.{Turned, Closed}

-- the number of the next line, the lines, and the branchings that are open, the latest first
pub record TraceLists : Type 0 where
  pub next : ℕ
  pub lines : List NotedLine
  pub opens : List OpenBranching

-- a trace that has begun
abbrev pub begun : TraceLists
begun = record { next = 0; lines = []; opens = [] }

-- a line of the code's trace, as the definitions see it
abbrev pub noted : TraceLine → NotedLine
noted l = record { number = l.number; line = line_of l.line; marks = l.marks }

-- the lines by themselves
abbrev pub lines_in : TraceLists → List Line
lines_in t = map (λ l. l.line) t.lines

-- the branchings, latest first, stand in this order among n lines
abbrev pub ArePlaced : ℕ → List OpenBranching → Type 0
ArePlaced n [] = Unit {0}
ArePlaced n (o ∷ os) = (o.at ≤ o.child) × (o.child ≤ n) × ArePlaced o.at os

-- ---- one line more

-- the next line of a trace, with its number and the marks on which it rests
abbrev pub next_line : TraceLists → Line → NumberSet → NotedLine
next_line t line marks = record { number = t.next; line = line; marks = marks }

-- the trace with one line more, which is no branching
abbrev pub with_line : TraceLists → Line → NumberSet → TraceLists
with_line t line marks = record { next = t.next + 1; lines = t.lines ++ next_line t line marks ∷ []; opens = t.opens }

-- the branching that a line opens: at its first alternative, with as many left
abbrev pub opened : TraceLists → NumberSet → ℕ → OpenBranching
opened t marks left = record {
  mark = t.next;
  at = length t.lines;
  child = length t.lines + 1;
  left = left;
  marks = marks;
  gathered = sets.empty;
}

-- the trace with one branching more, which is open
abbrev pub with_branching : TraceLists → Line → NumberSet → ℕ → TraceLists
with_branching t line marks left =
    record { next = t.next + 1; lines = t.lines ++ next_line t line marks ∷ []; opens = opened t marks left ∷ t.opens }

-- ---- going back from a child that is closed

-- the marks on which the closing of a whole branching rests
abbrev pub whole_marks : OpenBranching → NumberSet → NumberSet
whole_marks o u = sets.union (sets.union o.gathered u) o.marks

-- the lines once a branching is taken out: its open child stands in its place, without the lines that rest on its mark
abbrev pub without : OpenBranching → List NotedLine → List NotedLine
without o ls = take o.at ls ++ strip o.mark (drop o.child ls)

-- the lines that are left, the branchings that stay open, of which the latest is to turn, and the marks that closing
-- rests on
pub record GoneBack : Type 0 where
  pub lines : List NotedLine
  pub opens : List OpenBranching
  pub used : NumberSet

-- From a child of the latest branching whose closing rests on these marks. A branching on whose mark that does not rest
-- is taken out. One that has no alternative left is closed as a whole.
abbrev pub gone_back : List NotedLine → List OpenBranching → NumberSet → GoneBack
gone_back ls [] u = record { lines = ls; opens = []; used = u }
gone_back ls (o ∷ os) u =
    if sets.contains u o.mark
    then (if o.left == 0 then gone_back ls os (whole_marks o u) else record { lines = ls; opens = o ∷ os; used = u })
    else gone_back (without o ls) os u

-- the branching at its next alternative, which begins behind n lines
abbrev pub turned : ℕ → NumberSet → OpenBranching → OpenBranching
turned n u o = record {
  mark = o.mark;
  at = o.at;
  child = n;
  left = o.left - 1;
  marks = o.marks;
  gathered = sets.union o.gathered u;
}

-- the open branchings, the latest of which has turned to its next child
abbrev pub turned_latest : ℕ → NumberSet → List OpenBranching → List OpenBranching
turned_latest n u [] = []
turned_latest n u (o ∷ os) = turned n u o ∷ os

-- the trace after going back, whose next line has this number
abbrev pub at_next : ℕ → GoneBack → TraceLists
at_next next g = record { next = next; lines = g.lines; opens = turned_latest (length g.lines) g.used g.opens }

-- the trace once it has gone back, and the latest branching that is left has turned
abbrev pub turned_back : TraceLists → NumberSet → TraceLists
turned_back t u = at_next t.next (gone_back t.lines t.opens u)

-- the mark of that branching, and the marks of the facts of its next alternative
abbrev pub turn_of : List OpenBranching → Back
turn_of [] = Closed
turn_of (o ∷ os) = Turned o.mark (sets.insert o.marks o.mark)

-- what going back answers: all is closed, or the branching at which the search turns
abbrev pub answer_of : TraceLists → NumberSet → Back
answer_of t u = turn_of (gone_back t.lines t.opens u).opens

-- going back found a branching with a child that is left
abbrev pub is_turn : Back → Bool
is_turn Closed = false
is_turn (Turned mark marks) = true
