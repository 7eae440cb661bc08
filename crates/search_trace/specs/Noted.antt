-- Branches whose nodes and facts each rest on a set of marks, and rule lines that each rest on one.
use Rattle.std.specs.Prelude.{ℕ, ◌&&◌, not, Bool, List, ◌++◌, map, filter, Option, Some, None, if◌then◌else◌}
use Rattle.std.specs.List.{list_any, list_all, range_with_len}
use Rattle.std.specs.FinSet as sets
use Rattle.calculus_specs.specs.Concept.{Concept}
use Rattle.refutation_tree.specs.NumberSets.{NumberSet}
use Rattle.calculus_specs.specs.declared.facts.Fact.{Fact}
use Rattle.calculus_specs.specs.State.{fresh_facts}
use Rattle.calculus_specs.specs.Line.{Line}
use Rattle.calculus_specs.specs.Rules.{Question, Known, asked_facts, when}
use Rattle.search_trace.specs.Premises.{Added, more_facts, more_nodes, Rule, rule_of, holds, is_new, is_branching}
use Rattle.search_trace.specs.Premises.{is_single}

-- a thing that rests on marks
pub record Marked (A : Type 0) : Type 0 where
  pub item : A
  pub marks : NumberSet

-- a thing with the marks on which it rests
abbrev pub marked : {A : Type 0} → NumberSet → A → Marked A
marked u a = record { item = a; marks = u }

-- whether it rests on marks of a set alone
abbrev pub is_within : {A : Type 0} → NumberSet → Marked A → Bool
is_within u a = sets.is_subset a.marks u

-- what rests on marks of a set alone
abbrev pub within : {A : Type 0} → NumberSet → List (Marked A) → List A
within u ms = map (λ a. a.item) (filter (is_within u) ms)

-- the things without their marks
abbrev pub items : {A : Type 0} → List (Marked A) → List A
items ms = map (λ a. a.item) ms

-- the nodes and the facts of a branch
pub record Noted : Type 0 where
  pub nodes : List (Marked ℕ)
  pub facts : List (Marked (Fact Concept))

-- the branch with all its nodes and facts
abbrev pub known : Noted → Known
known k = record { nodes = items k.nodes; facts = items k.facts }

-- the branch with those alone that rest on marks of a set
abbrev pub known_within : NumberSet → Noted → Known
known_within u k = record { nodes = within u k.nodes; facts = within u k.facts }

-- the branch after a child adds facts or new nodes, which rest on these marks
abbrev pub noted_added : NumberSet → Noted → Added → Noted
noted_added u k (more_facts fs) = record { nodes = k.nodes; facts = k.facts ++ map (marked u) fs }
noted_added u k (more_nodes x s e y n) = record {
  nodes = k.nodes ++ map (marked u) (range_with_len y n);
  facts = k.facts ++ map (marked u) (fresh_facts x s e y n);
}

-- a line of the trace, with its number, which names its mark if it branches, and the marks that its premises rest on
pub record NotedLine : Type 0 where
  pub number : ℕ
  pub line : Line
  pub marks : NumberSet

-- the marks on which the children's facts rest
abbrev pub marks_given : NotedLine → NumberSet
marks_given l = if is_branching l.line then sets.insert l.marks l.number else l.marks

module _ (q : Question) (concept : ℕ → Option Concept) where
  abbrev pub noted_by : Noted → NotedLine → Option Rule → Option (List Noted)
  noted_by k l None = None
  noted_by k l (Some r) =
      when (list_all (holds q.theory (known_within l.marks k)) r.premises)
      (when (list_all (is_new (known k)) r.children) (Some (map (noted_added (marks_given l) k) r.children)))

  -- the children of a line: its premises hold by what rests on its marks alone, and its new nodes are not known at all
  abbrev pub noted_children : Noted → NotedLine → Option (List Noted)
  noted_children k l = noted_by k l (rule_of q concept l.line)

-- the branch of `start`: the first nodes, of which the one in question is in `sub` and not in `sup`; it rests on no
-- mark
abbrev pub noted_start : ℕ → ℕ → Concept → Concept → Noted
noted_start first at sub sup = record {
  nodes = map (marked sets.empty) (range_with_len 0 first);
  facts = map (marked sets.empty) (asked_facts at sub sup);
}

-- the branch with which a refutation of the question begins
abbrev pub start_of : Question → Noted
start_of q = noted_start q.first q.at q.sub q.sup

-- ---- taking out what rests on a mark

-- the line rests on the mark
abbrev pub rests_on : ℕ → NotedLine → Bool
rests_on m l = sets.contains l.marks m

-- the lines that do not rest on the mark
abbrev pub strip : ℕ → List NotedLine → List NotedLine
strip m ls = filter (λ l. not (rests_on m l)) ls

-- whether a branching or a clash among the lines rests on the mark: then closing rests on it
abbrev pub closing_rests_on : ℕ → List NotedLine → Bool
closing_rests_on m ls = list_any (λ l. not (is_single l.line) && rests_on m l) ls
