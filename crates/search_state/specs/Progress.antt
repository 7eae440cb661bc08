-- How far a search is.
use Rattle.std.specs.Prelude.{◌≡◌, ℕ, ◌+◌, ◌<◌, nat_lt, Bool, true, false, List, [], ◌∷◌, ◌++◌, length, Option, Some}
use Rattle.std.specs.Prelude.{None}
use Rattle.std.specs.Prelude.{All}
use Rattle.std.specs.List.{list_all}
use Rattle.shq_terms.specs.Concept.{Concept}
use Rattle.shq_terms.specs.declared.axioms.Query.{Query}
use Rattle.calculus_specs.specs.Normal.{normal_form, negated_form}
use Rattle.calculus_specs.specs.Shape.{IsTable}
use Rattle.calculus_specs.specs.Tree.{tree_of}
use Rattle.calculus_specs.specs.Rows.{IsChoice}
use Rattle.calculus_specs.specs.Rules.{Question}
use Rattle.calculus_specs.specs.declared.facts.Fact.{Fact}
use Rattle.calculus_specs.specs.State.{node_count_from, speak_of_nodes}
use Rattle.search_trace.specs.RuleLine.{concept_numbers}
use Rattle.tableau_specs.specs.Clash.{IsPlainClash}
use Rattle.tableau_specs.specs.KeptKinds.{IsKept}
use Rattle.tableau_specs.specs.Steps.{SearchContext, below_of, IsLegal}
use Rattle.tableau_specs.specs.Reached.{start, Follows, FactsHaveNumbers}
use Rattle.absorption.specs.ClosureLaws.{IsClosedFor}
use Rattle.search_trace.specs.Noted.{Noted, NotedLine, start_of}
use Rattle.search_trace.specs.Grounded.{AreGrounded}
use Rattle.search_trace.specs.Places.{Place}
use Rattle.search_trace.specs.Trail.{makes_no_node}
use Rattle.step_agenda.specs.By.{By}
use Rattle.step_agenda.specs.Entry.{Entry}
use Rattle.step_agenda.specs.Entry.TheVariants.{Fact as Grounded}
use Rattle.step_agenda.specs.Trail.{TreeEntries, facts_in, items_of, with_fresh}
use Rattle.step_agenda.specs.Followed.{Printed, AreFirstBlocks}
use Rattle.step_finders.specs.declared.clash.Clash.{Clash}
use Rattle.step_finders.specs.declared.make.NewNodes.{NewNodes}
use Rattle.step_finders.specs.Clashing.{IsShown}
use Rattle.step_lines.specs.Serving.{HasPart}
use Rattle.search_trace.specs.Trace.{TraceLists}
use Rattle.search_trace.specs.Laws.{IsTracedAt}
use Rattle.search_state.specs.Marked.{marked_in}
use Rattle.search_state.specs.Branchings.{AreMarks}

-- the query, the node in question, the numbers of what it asks, how many first nodes there are, the entries of the
-- trail, what is known of blocked nodes, the trace, the places of the marks that the search itself has put, latest
-- first, a clash of the trail, if it has a plain one, how many steps were made, and whether the search went on behind a
-- trail that it was given: then the lines of its trace alone are no refutation
pub record ProgressLists : Type 0 where
  pub query : Query
  pub at : ℕ
  pub sub : ℕ
  pub not_sup : ℕ
  pub first : ℕ
  pub entries : List Entry
  pub found_blocks : Printed
  pub trace : TraceLists
  pub marks : List ℕ
  pub clash : Option Clash
  pub steps : ℕ
  pub behind : Bool

-- the first nodes and the entries, as a tree has them
abbrev pub tree_in : ProgressLists → TreeEntries
tree_in s = record { first = s.first; entries = s.entries }

-- ---- what does not change

-- what a query asks of a node, over the axioms, the first nodes and the given facts of a context
abbrev pub asked_of : SearchContext → Query → ℕ → Question
asked_of w q at = record { theory = w.theory; sub = q.sub; sup = q.sup; first = w.first; at = at; fact_of = w.fact_of }

-- and what a search asks
abbrev pub asked_by : SearchContext → ProgressLists → Question
asked_by w s = asked_of w s.query s.at

-- the context has what a search for the query needs, the node in question is a first one, and the numbers are those of
-- what the query asks
pub record IsAsked (w : SearchContext) (q : Query) (at sub not_sup : ℕ) : Type 0 where
  pub is_table : IsTable w.table
  pub is_choice : IsChoice w.theory w.table w.rows
  pub is_closed : IsClosedFor w
  pub facts_have_numbers : FactsHaveNumbers (asked_of w q at) w.table
  pub at_first : at < w.first
  pub sub_listed : sub < length w.table
  pub sub_is : tree_of w.table sub ≡ normal_form q.sub
  pub not_sup_listed : not_sup < length w.table
  pub not_sup_is : tree_of w.table not_sup ≡ negated_form q.sup

-- the search is still for the same query, from the same nodes and numbers, and began as it did
pub record IsSameQuery (old new : ProgressLists) : Type 0 where
  pub query : new.query ≡ old.query
  pub at : new.at ≡ old.at
  pub sub : new.sub ≡ old.sub
  pub not_sup : new.not_sup ≡ old.not_sup
  pub first : new.first ≡ old.first
  pub behind : new.behind ≡ old.behind

-- ---- what is always so

-- The concepts that the line names are in the table, and of each kind that the rules keep. Where it names a part or
-- a fact of an axiom, there is one.
pub record IsFitLine (w : SearchContext) (sub not_sup : ℕ) (l : NotedLine) : Type 0 where
  pub over : list_all (λ c. nat_lt c (length w.table)) (concept_numbers l.line) ≡ true
  pub of_kind : (p : Concept → Bool) (e : ℕ → Bool) → IsKept w.theory w.fact_of (λ c. p c ≡ true) (λ r. e r ≡ true)
      → p (tree_of w.table sub) ≡ true → p (tree_of w.table not_sup) ≡ true
      → list_all (λ c. p (tree_of w.table c)) (concept_numbers l.line) ≡ true
  pub has_part : HasPart w l.line

-- The trail is reached by as many legal steps, the blocks that are known are those of the trail, and so is the trace.
-- The trace begins with the branch of the query's start, unless the search went on behind a trail that it was given.
pub record IsStanding (w : SearchContext) (s : ProgressLists) : Type 0 where
  pub asked : IsAsked w s.query s.at s.sub s.not_sup
  pub first_is : s.first ≡ w.first
  pub follows : Follows w (start s.at s.sub s.not_sup) s.steps (items_of s.entries)
  pub blocks : AreFirstBlocks s.first (facts_in s.entries) s.found_blocks
  pub places : List Place
  pub from : Noted
  pub from_is : s.behind ≡ false → from ≡ start_of (asked_by w s)
  pub traced : IsTracedAt (asked_by w s) w.table from s.trace places (marked_in s.entries)
  pub are_marks : AreMarks w s.entries s.marks places
  pub grounded : AreGrounded w.first (marked_in s.entries)
  pub fit : All (IsFitLine w s.sub s.not_sup) s.trace.lines

-- a plain clash is known exactly where there is one
abbrev pub IsClashOf : SearchContext → List (Fact ℕ) → Option Clash → Type 0
IsClashOf w fs None = ¬ IsPlainClash w.first (below_of w) w.table fs
IsClashOf w fs (Some clash) = IsShown w fs clash

-- the search stands where its trail says, and a plain clash is known exactly where there is one
pub record IsSearching (w : SearchContext) (s : ProgressLists) : Type 0 where
  pub standing : IsStanding w s
  pub clash : IsClashOf w (facts_in s.entries) s.clash

-- ---- a step

-- a legal step was made, and may have made a plain clash
pub record HasMoved (w : SearchContext) (old new : ProgressLists) : Type 0 where
  pub same : IsSameQuery old new
  pub standing : IsStanding w new
  pub is_legal : IsLegal w (items_of old.entries) (items_of new.entries)
  pub counted : new.steps ≡ old.steps + 1

-- the trail's last entry is the fact, which makes no node, and before which there was no plain clash
pub record IsLast (w : SearchContext) (es : List Entry) (f : Fact ℕ) : Type 0 where
  pub front : List Entry
  pub by : By
  pub splits : es ≡ front ++ Grounded f by ∷ []
  pub no_node : makes_no_node w.first f ≡ true
  pub none : ¬ IsPlainClash w.first (below_of w) w.table (facts_in front)

-- the entries with the facts of new nodes behind them
abbrev pub with_nodes : ℕ → List Entry → NewNodes → By → List Entry
with_nodes first es m by =
    (with_fresh (record { first = first; entries = es }) m.parent m.role m.filler m.count by).entries

-- the trail's last entries are the facts of new nodes, before which there was no plain clash
pub record IsLastNew (w : SearchContext) (es : List Entry) (m : NewNodes) (new : ℕ) : Type 0 where
  pub front : List Entry
  pub by : By
  pub splits : es ≡ with_nodes w.first front m by
  pub none : ¬ IsPlainClash w.first (below_of w) w.table (facts_in front)
  pub is_node : m.parent < node_count_from w.first (facts_in front)
  pub is_some : 0 < m.count
  pub new_is : new ≡ node_count_from w.first (facts_in front)
  pub speak : speak_of_nodes w.first (facts_in front) ≡ true
