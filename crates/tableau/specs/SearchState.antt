-- What is seen of a search.
use Rattle.std.specs.Prelude.{◌≡◌, ℕ, ◌==◌, ◌&&◌, Bool, true, false, List, ◌∷◌, length, if◌then◌else◌}
use Rattle.shq_terms.specs.declared.axioms.On.{On}
use Rattle.shq_terms.specs.declared.axioms.On.TheVariants.{Any, Individual}
use Rattle.shq_terms.specs.declared.axioms.Query.{Query}
use Rattle.calculus_specs.specs.Rules.{Question}
use Rattle.closed_search.specs.Theory.{question_in}
use Rattle.tableau_specs.specs.declared.Item.{Item}
use Rattle.tableau_specs.specs.Steps.{SearchContext}
use Rattle.tableau_specs.specs.Reached.{start, IsReached}
use Rattle.search_state.specs.Entry.{Entry}
use Rattle.search_state.specs.Trail.{TreeEntries, items_of, facts_in}
use Rattle.search_state.specs.Followed.{Printed, IsCurrent}
use Rattle.search_rules.specs.RuleLists.{RuleLists, numbers_in, context_in}
use Rattle.search_laws.specs.Runs.{IsRun, was_ever}
use Rattle.tableau.specs.Seen.{SeenSets, gives_more, AreOver, AreSeenIn, IsToldApart}

-- the rules and the query, the numbers of what the query asks, how many first nodes there are, the entries of the
-- trail, what is known of blocked nodes, the classes with which its run had to do, how many steps were made, whether
-- the search went on behind the beginning of another one, whether it has ended, and whether memory was refused: then
-- nothing more is known of it
pub record SearchState : Type 0 where
  pub rules : RuleLists
  pub query : Query
  pub sub : ℕ
  pub not_sup : ℕ
  pub first : ℕ
  pub entries : List Entry
  pub found_blocks : Printed
  pub seen : SeenSets
  pub steps : ℕ
  pub behind : Bool
  pub ended : Bool
  pub failed : Bool

-- the first nodes and the entries, as a tree has them
abbrev pub tree_in : SearchState → TreeEntries
tree_in s = record { first = s.first; entries = s.entries }

-- what is asked over the axioms of the set
abbrev pub question_of : SearchState → Question
question_of s = question_in s.rules.ontology (numbers_in s.rules) s.query

-- what its steps read
abbrev pub context_of : SearchState → SearchContext
context_of s = context_in s.rules

-- the trail of a search
abbrev pub trail_of : SearchState → List Item
trail_of s = items_of s.entries

-- its trail is reached by as many legal steps
abbrev pub IsReachedBy : SearchState → Type 0
IsReachedBy s = IsReached (question_of s) s.rules.table (context_of s).rows s.steps (trail_of s)

-- the blocks that are known are those of all nodes of its tree
abbrev pub HasAllBlocks : SearchState → Type 0
HasAllBlocks s = IsCurrent s.first (facts_in s.entries) s.found_blocks

-- whether a query is on any element
abbrev pub is_any : On → Bool
is_any Any = true
is_any (Individual a) = false

-- of how many classes is noted what a run has to do with them: of each where the search asks whether anything is in the
-- query's subclass, since the complement of nothing is top, which is number 0
abbrev pub room_for : ℕ → On → ℕ → ℕ
room_for count on not_sup = if is_any on && not_sup == 0 then count else 0

-- what more is noted of a run where the search began from nothing
pub record IsNotedWhole (s : SearchState) (earlier : List (List Item)) : Type 0 where
  pub bare : was_ever (gives_more (question_of s).at) (trail_of s ∷ earlier) ≡ false → s.seen.bare ≡ true
  pub told_apart : IsToldApart (context_of s).first (question_of s).at s.rules.table (trail_of s ∷ earlier) s.seen

-- Its run: all its trails, as many as steps were made and the first one, and the classes with which they had to do.
-- Where the search began from nothing, it is known whether the run gave the node in question no more than top, and what
-- tells other nodes apart from this node is noted. A search that went on behind a beginning tells none apart, since
-- what would do so in the beginning's run is not looked at again
pub record HasRun (s : SearchState) : Type 0 where
  pub earlier : List (List Item)
  pub is_run : IsRun (context_of s) (start (question_of s).at s.sub s.not_sup) (trail_of s ∷ earlier)
  pub counted : length earlier ≡ s.steps
  pub are_over : AreOver (room_for (length s.rules.ontology.classes) s.query.on s.not_sup) s.seen
  pub are_seen : AreSeenIn (question_of s).at s.rules.table (trail_of s ∷ earlier) s.seen
  pub from_nothing : s.behind ≡ false → IsNotedWhole s earlier
  pub not_apart : s.behind ≡ true → s.seen.tells_apart ≡ false

-- a search that begins
pub record HasBegun (rules : RuleLists) (query : Query) (sub not_sup : ℕ) (s : SearchState) : Type 0 where
  pub rules_are : s.rules ≡ rules
  pub query_is : s.query ≡ query
  pub sub_is : s.sub ≡ sub
  pub not_sup_is : s.not_sup ≡ not_sup
  pub trail_is : trail_of s ≡ start (question_of s).at sub not_sup
  pub no_steps : s.steps ≡ 0
  pub from_nothing : s.behind ≡ false
  pub goes_on : s.ended ≡ false
  pub whole : s.failed ≡ false

-- the same rules, query and numbers, and the search began as it did
pub record IsSameSearch (old new : SearchState) : Type 0 where
  pub rules : new.rules ≡ old.rules
  pub query : new.query ≡ old.query
  pub sub : new.sub ≡ old.sub
  pub not_sup : new.not_sup ≡ old.not_sup
  pub behind : new.behind ≡ old.behind
