-- The state of a search's trace, and when it is honest: completed by lines that close its open places, it is a
-- refutation.
use Rattle.std.specs.Prelude.{◌≡◌, ℕ, ◌++◌, true, List, [], ◌∷◌, map, Some}
use Rattle.std.specs.List.{list_all}
use Rattle.std.specs.FinSet as sets
use Rattle.calculus_specs.specs.Shape.{Shape}
use Rattle.calculus_specs.specs.Rules.{Question}
use Rattle.calculus_specs.specs.declared.facts.Fact.{Fact}
use Rattle.search_trace.specs.Premises.{Added, is_single}
use Rattle.search_trace.specs.Leaves.{leaves}
use Rattle.search_trace.specs.Frames.{began, lines_of}
use Rattle.search_trace.specs.Noted.{Noted, marked, NotedLine, noted_added, marks_given}
use Rattle.search_trace.specs.Trail.{MarkedFact, Covers}
use Rattle.search_trace.specs.Back.{Branching, frames_of, marks_in, step_of, AreBranchings}

-- the open branchings, latest first; the lines since the latest alternative was taken, and the branch that they lead
-- to; the facts of the trail
pub record Tracing : Type 0 where
  pub branchings : List Branching
  pub lines : List NotedLine
  pub now : Noted
  pub facts : List MarkedFact

-- all lines of the trace
abbrev pub trace_of : Tracing → List NotedLine
trace_of t = lines_of (frames_of t.branchings) ++ t.lines

-- the state of a trace is honest: its lines lead to the branch that is open, which has the facts of the trail
pub record IsHonest (q : Question) (table : List Shape) (start : Noted) (t : Tracing) : Type 0 where
  pub are_open : AreBranchings q table start t.branchings
  pub singles : list_all (λ l. is_single l.line) t.lines ≡ true
  pub leads : leaves (step_of q table) (began start (frames_of t.branchings) ∷ []) t.lines ≡ Some (t.now ∷ [])
  pub covers : Covers q.first table t.facts t.now

-- after a line with one child, of which the search puts these facts on its trail
abbrev pub after_line : Tracing → NotedLine → Added → List (Fact ℕ) → Tracing
after_line t l a new = record {
  branchings = t.branchings;
  lines = t.lines ++ l ∷ [];
  now = noted_added (marks_given l) t.now a;
  facts = t.facts ++ map (marked (marks_given l)) new;
}

-- the branching that a line with several children opens
abbrev pub opened : Tracing → NotedLine → Added → List Added → Branching
opened t l a rest = record {
  frame = record {
    before = t.lines;
    at = t.now;
    branching = l;
    done = [];
    closed = [];
    kid = noted_added (marks_given l) t.now a;
    left = map (noted_added (marks_given l) t.now) rest;
  };
  gathered = sets.empty;
  facts = t.facts;
  taken = a;
  rest = rest;
}

-- where the alternative taken of the latest branching begins, once its facts are on the trail
abbrev pub at_alternative : Branching → List Branching → List (Fact ℕ) → Tracing
at_alternative b bs new = record {
  branchings = b ∷ bs;
  lines = [];
  now = b.frame.kid;
  facts = b.facts ++ map (marked (marks_in b)) new;
}
