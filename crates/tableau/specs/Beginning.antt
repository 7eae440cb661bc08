-- Beginnings: what one search did that serves others, and the searches that go on from it.
use Rattle.std.specs.Prelude.{◌≡◌, ℕ, ◌-◌, nat_lt, ◌==◌, ◌&&◌, ◌||◌, not, Bool, true, false, List, [], ◌∷◌, ◌++◌}
use Rattle.std.specs.Prelude.{length}
use Rattle.std.specs.Prelude.{slice_get, Option, Some, None}
use Rattle.shq_terms.specs.Concept.{top, bottom}
use Rattle.shq_terms.specs.declared.axioms.On.TheVariants.{Any}
use Rattle.shq_terms.specs.declared.axioms.Query.{Query}
use Rattle.calculus_specs.specs.Rows.{IsChoice}
use Rattle.calculus_specs.specs.Rules.{Question}
use Rattle.calculus_specs.specs.Shape.{Shape, shape_of, IsTable}
use Rattle.calculus_specs.specs.Shape.Shape.{top as top_shape, bottom as bottom_shape, name, not_name, intersection}
use Rattle.calculus_specs.specs.Shape.Shape.{union, some_of, all_of, at_least, at_most}
use Rattle.calculus_specs.specs.declared.facts.Fact.{Fact}
use Rattle.calculus_specs.specs.declared.facts.Fact.TheVariants.{Has, Edge, Apart, Same}
use Rattle.closed_search.specs.Theory.{question_in}
use Rattle.tableau_specs.specs.declared.Item.{Item}
use Rattle.tableau_specs.specs.declared.Item.TheVariants.{Fact as Says, Mark}
use Rattle.tableau_specs.specs.Steps.{SearchContext, HasPlainClash}
use Rattle.tableau_specs.specs.Reached.{start, context_of as context_for}
use Rattle.search_laws.specs.Runs.{IsRun, was_ever, puts_at}
use Rattle.search_laws.specs.BeginningLaws.{asks_for_nodes}
use Rattle.search_rules.specs.RuleLists.{RuleLists, numbers_in, theory_in, context_in}
use Rattle.tableau.specs.Seen.{SeenSets, nothing_known, HasNoted, class_of, complement_of, is_one, AreOver, AreSeenIn}
use Rattle.tableau.specs.SearchState.{SearchState, is_any, question_of, context_of, trail_of}
use Rattle.tableau.specs.Steps.{Runs, Stays, IsEvent, IsEnd}
use Rattle.tableau.specs.declared.search.Event.{Event}
use Rattle.tableau.specs.declared.search.End.{End}

-- what a search whether anything is in top and not in bottom did: the items of its trail behind the two facts of its
-- start, how many steps, and the classes with which its run had to do
pub record BeginningLists : Type 0 where
  pub rest : List Item
  pub steps : ℕ
  pub seen : SeenSets

-- ---- what serves others

-- whether anything is in top and not in bottom
abbrev pub anything : Query
anything = record { sub = top; sup = bottom; on = Any }

-- what it asks over the axioms of the rules' set. Each query on any element asks of the same node.
abbrev pub question_of_any : RuleLists → Question
question_of_any rules = question_in rules.ontology (numbers_in rules) anything

-- what the steps of the rules read over another table
abbrev pub context_over : RuleLists → List Shape → SearchContext
context_over rules table = context_for (question_of_any rules) table (context_in rules).rows

-- the trail behind the start that gives the node in question top alone
abbrev pub trail_behind_top : RuleLists → BeginningLists → List Item
trail_behind_top rules b = start (question_of_any rules).at 0 0 ++ b.rest

-- The beginning serves searches over these rules: it is a run of as many steps over the same rows and a table of which
-- that of the rules has grown. It says no more of the node in question than top, and ends without a plain clash. The
-- classes with which it had to do are noted, of all the ontology's.
pub record Serves (rules : RuleLists) (b : BeginningLists) : Type 0 where
  pub table : List Shape
  pub more : List Shape
  pub grown : rules.table ≡ table ++ more
  pub is_table : IsTable table
  pub is_choice : IsChoice (theory_in rules) table (context_in rules).rows
  pub earlier : List (List Item)
  pub is_run : IsRun (context_over rules table) (start (question_of_any rules).at 0 0)
      (trail_behind_top rules b ∷ earlier)
  pub counted : length earlier ≡ b.steps
  pub says_nothing_there : (c : ℕ)
      → was_ever (puts_at (question_of_any rules).at c) (trail_behind_top rules b ∷ earlier) ≡ true
      → c ≡ 0
  pub is_clear : ¬ HasPlainClash (context_over rules table) (trail_behind_top rules b)
  pub are_over : AreOver (length rules.ontology.classes) b.seen
  pub are_seen : AreSeenIn (question_of_any rules).at table (trail_behind_top rules b ∷ earlier) b.seen

-- ---- where there is one

-- whether a search is a beginning for others: it asks whether anything is in top and not in bottom, and it is known
-- that its run gave the node in question no more than top
abbrev pub can_begin : SearchState → Bool
can_begin s = is_any s.query.on && (s.sub == 0 && s.not_sup == 0) && s.seen.bare

-- what the search did, all of it, and it serves others
pub record HasDone (s : SearchState) (b : BeginningLists) : Type 0 where
  pub trail_is : trail_of s ≡ start (question_of s).at s.sub s.not_sup ++ b.rest
  pub steps_are : b.steps ≡ s.steps
  pub serves : Serves s.rules b

-- what a search is for others
abbrev pub IsBeginningOf : SearchState → Option BeginningLists → Type 0
IsBeginningOf s None = can_begin s ≡ false
IsBeginningOf s (Some b) = HasDone s b

-- ---- going on from it

-- whether two classes that were found are the same
abbrev pub are_one : Option ℕ → Option ℕ → Bool
are_one (Some a) found = is_one a found
are_one None found = false

-- whether two shapes are a class and its complement
abbrev pub are_opposite : Shape → Shape → Bool
are_opposite s t = are_one (class_of s) (complement_of t)

-- whether a shape is bottom
abbrev pub is_bottom : Shape → Bool
is_bottom bottom_shape = true
is_bottom top_shape = false
is_bottom (name a) = false
is_bottom (not_name a) = false
is_bottom (intersection parts) = false
is_bottom (union parts) = false
is_bottom (some_of r c) = false
is_bottom (all_of r c) = false
is_bottom (at_least n r c) = false
is_bottom (at_most n r c) = false

-- whether a node with two concepts of these shapes, and no edge, has a plain clash
abbrev pub do_clash : Shape → Shape → Bool
do_clash s t = (is_bottom s || is_bottom t) || (are_opposite s t || are_opposite t s)

-- whether a search for the query can go on from a beginning that serves the rules: it is on any element, and the two
-- concepts of its start ask for no nodes, and do not clash
abbrev pub can_go_on : RuleLists → Query → ℕ → ℕ → Bool
can_go_on rules query sub not_sup =
    is_any query.on
    && (not (asks_for_nodes (shape_of rules.table sub)) && not (asks_for_nodes (shape_of rules.table not_sup)))
    && not (do_clash (shape_of rules.table sub) (shape_of rules.table not_sup))

-- a search that goes on from a beginning: the beginning's trail stands behind its own start, and its steps are counted
pub record GoesOnFrom (b : BeginningLists) (rules : RuleLists) (query : Query) (sub not_sup : ℕ) (s : SearchState) :
    Type 0 where
  pub rules_are : s.rules ≡ rules
  pub query_is : s.query ≡ query
  pub sub_is : s.sub ≡ sub
  pub not_sup_is : s.not_sup ≡ not_sup
  pub trail_is : trail_of s ≡ start (question_of s).at sub not_sup ++ b.rest
  pub steps_are : s.steps ≡ b.steps
  pub is_behind : s.behind ≡ true
  pub goes_on : s.ended ≡ false
  pub whole : s.failed ≡ false

-- What is noted of such a search: what was of the beginning, and the two facts of its start, or nothing where it asks
-- for more than whether anything is in its subclass. Other nodes are not told apart, whatever was noted of the
-- beginning: so all classes whose complement was put anywhere count
pub record IsSeenBehind (table : List Shape) (at sub not_sup : ℕ) (old new : SeenSets) : Type 0 where
  pub noted : (not_sup == 0) ≡ true → HasNoted at table (Has at sub ∷ Has at not_sup ∷ []) old new
  pub nothing : (not_sup == 0) ≡ false → new ≡ nothing_known
  pub not_apart : new.tells_apart ≡ false

-- such a search, or none
abbrev pub GoesOnIfCan : BeginningLists → RuleLists → Query → ℕ → ℕ → Option SearchState → Type 0
GoesOnIfCan b rules query sub not_sup None = can_go_on rules query sub not_sup ≡ false
GoesOnIfCan b rules query sub not_sup (Some s) = GoesOnFrom b rules query sub not_sup s

-- ---- running until another first node is met

-- whether a node is a first one, and not the one in question
abbrev pub is_other_first : ℕ → ℕ → ℕ → Bool
is_other_first first at x = nat_lt x first && not (x == at)

-- whether a fact speaks of such a node
abbrev pub speaks_of_other : ℕ → ℕ → Fact ℕ → Bool
speaks_of_other first at (Has x c) = is_other_first first at x
speaks_of_other first at (Edge r x y) = is_other_first first at x || is_other_first first at y
speaks_of_other first at (Apart x y) = is_other_first first at x || is_other_first first at y
speaks_of_other first at (Same x y) = is_other_first first at x || is_other_first first at y

-- whether an item is such a fact
abbrev pub meets_other : ℕ → ℕ → Item → Bool
meets_other first at (Says f) = speaks_of_other first at f
meets_other first at (Mark c) = false

-- the last item of the trail is such a fact
pub record LastMeets (first at : ℕ) (trail : List Item) : Type 0 where
  pub last : Item
  pub is_last : slice_get trail (length trail - 1) ≡ Some last
  pub meets : meets_other first at last ≡ true

-- the search made steps, goes on, and has just met another first node
pub record HasMet (old new : SearchState) : Type 0 where
  pub runs : Runs old new
  pub goes_on : new.ended ≡ false
  pub has_met : LastMeets (context_of new).first (question_of new).at (trail_of new)

-- what a run comes to that stops where another first node is met
abbrev pub IsEndAlone : ℕ → SearchState → SearchState → Option End → Type 0
IsEndAlone fuel old new (Some end) = IsEnd fuel old new end
IsEndAlone fuel old new None = HasMet old new

-- ---- running elsewhere

-- the search goes on, and its trail has no plain clash
pub record IsIdle (s : SearchState) : Type 0 where
  pub goes_on : s.ended ≡ false
  pub is_clear : ¬ HasPlainClash (context_of s) (trail_of s)

-- what a step elsewhere than at the node in question comes to; none was seen where no event is given
abbrev pub IsEventElsewhere : SearchState → SearchState → Option Event → Type 0
IsEventElsewhere old new (Some event) = IsEvent old new event
IsEventElsewhere old new None = Stays old new × IsIdle new

-- what a run of such steps comes to
abbrev pub IsEndElsewhere : ℕ → SearchState → SearchState → Option End → Type 0
IsEndElsewhere fuel old new (Some end) = IsEnd fuel old new end
IsEndElsewhere fuel old new None = Runs old new × IsIdle new
