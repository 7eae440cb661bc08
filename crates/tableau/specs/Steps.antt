-- What a search does.
use Rattle.std.specs.Prelude.{◌≡◌, ◌↔◌, ℕ, ◌+◌, ◌<◌, true, false, List, length, Option, Some, None}
use Rattle.std.specs.FinSet as set
use Rattle.shq_terms.specs.Concept.{name}
use Rattle.shq_terms.specs.declared.axioms.On.TheVariants.{Any}
use Rattle.shq_terms.specs.declared.axioms.Query.{Query}
use Rattle.shq_meaning.specs.Truth.{Entails}
use Rattle.lane_sieve.specs.Sets.{IsPart}
use Rattle.axiom_sets.specs.Sets.{Limited, member_list}
use Rattle.calculus_specs.specs.Valid.{IsRefutation}
use Rattle.closed_search.specs.RefutationLists.{RefutationLists}
use Rattle.closed_search.specs.ReadBack.{IsWritable}
use Rattle.closed_search.specs.Theory.{named_axioms, question_in}
use Rattle.tableau_specs.specs.declared.Item.{Item}
use Rattle.tableau_specs.specs.Steps.{IsLegal, IsSaturated, HasClash}
use Rattle.tableau_specs.specs.Reached.{Follows, Costs}
use Rattle.tableau.specs.Seen.{has_seen}
use Rattle.search_state.specs.Trail.{facts_in}
use Rattle.search_state.specs.Followed.{IsCurrent}
use Rattle.search_rules.specs.RuleLists.{RuleLists}
use Rattle.tableau.specs.declared.search.Event.{Event}
use Rattle.tableau.specs.declared.search.Event.TheVariants.{Moved, Saturated, Closed, Lost}
use Rattle.tableau.specs.declared.search.End.{End}
use Rattle.tableau.specs.declared.search.End.TheVariants.{Saturated as RunSaturated, Closed as RunClosed}
use Rattle.tableau.specs.declared.search.End.TheVariants.{Lost as RunLost, Spent}
use Rattle.closed_search.specs.Named.{NamesNoOther}
use Rattle.tableau.specs.SearchState.{SearchState, context_of, trail_of}

-- ---- refutations

-- it is a valid refutation of the query over axioms of the set, which can be written; of the set it names role axioms
-- alone, and axioms that stand in its lines
pub record Refutes (rules : RuleLists) (query : Query) (r : RefutationLists) : Type 0 where
  pub limit : r.axioms.limit ≡ length rules.ontology.axioms
  pub named : IsPart r.axioms.members rules.set.members
  pub standing : NamesNoOther rules.ontology.axioms rules.set r.lines r.axioms
  pub refutes : IsRefutation (question_in rules.ontology (member_list r.axioms) query) r.shapes r.lines
  pub writable : IsWritable rules.ontology r

-- ---- where a search ends

-- its trail is saturated, and the blocks are those of the trail
pub record IsAtModel (s : SearchState) : Type 0 where
  pub is_saturated : IsSaturated (context_of s) (trail_of s)
  pub is_current : IsCurrent s.first (facts_in s.entries) s.found_blocks
  pub ended : s.ended ≡ true

-- its trail has a clash, and the refutation is one of its query
pub record IsAtRefutation (r : RefutationLists) (s : SearchState) : Type 0 where
  pub has_clash : HasClash (context_of s) (trail_of s)
  pub refutes : Refutes s.rules s.query r
  pub ended : s.ended ≡ true

-- Its trail has a clash, and it has ended. It went on behind the beginning of another search, whose choices its lines
-- do not try out, so that there is no refutation.
pub record IsLost (s : SearchState) : Type 0 where
  pub has_clash : HasClash (context_of s) (trail_of s)
  pub is_behind : s.behind ≡ true
  pub ended : s.ended ≡ true

-- ---- one step

-- the search makes one legal step, and goes on
pub record Moves (old new : SearchState) : Type 0 where
  pub is_legal : IsLegal (context_of old) (trail_of old) (trail_of new)
  pub counted : new.steps ≡ old.steps + 1
  pub goes_on : new.ended ≡ false

-- it makes none
pub record Stays (old new : SearchState) : Type 0 where
  pub entries : new.entries ≡ old.entries
  pub steps : new.steps ≡ old.steps

-- what a step of a search comes to, for each event
abbrev pub IsEvent : SearchState → SearchState → Event → Type 0
IsEvent old new Moved = Moves old new
IsEvent old new Saturated = Stays old new × IsAtModel new
IsEvent old new (Closed r) = Stays old new × IsAtRefutation r new
IsEvent old new Lost = Stays old new × IsLost new

-- ---- a run

-- the search makes legal steps, and their number is counted
pub record Runs (old new : SearchState) : Type 0 where
  pub count : ℕ
  pub follows : Follows (context_of old) (trail_of old) count (trail_of new)
  pub counted : new.steps ≡ old.steps + count

-- as many steps as were allowed are made, and one more is legal
pub record IsSpent (fuel : ℕ) (old new : SearchState) : Type 0 where
  pub counted : new.steps ≡ old.steps + fuel
  pub goes_on : new.ended ≡ false
  pub next : List Item
  pub is_legal : IsLegal (context_of new) (trail_of new) next

-- what a run of a search comes to, for each end
abbrev pub IsEnd : ℕ → SearchState → SearchState → End → Type 0
IsEnd fuel old new RunSaturated = Runs old new × IsAtModel new
IsEnd fuel old new (RunClosed r) = Runs old new × IsAtRefutation r new
IsEnd fuel old new RunLost = Runs old new × IsLost new
IsEnd fuel old new Spent = Runs old new × IsSpent fuel old new

-- ---- other queries

-- the search begins with a node for any element, which is in the query's subclass and in top
pub record AsksForAny (s : SearchState) : Type 0 where
  pub on_any : s.query.on ≡ Any
  pub sub_alone : s.not_sup ≡ 0

-- and its run had nothing to do with class a
pub record LeavesClassOut (s : SearchState) (a : ℕ) : Type 0 where
  pub asks_for_any : AsksForAny s
  pub is_unseen : has_seen s.seen a ≡ false

-- the query whether the search's subclass is in class a
abbrev pub query_for : SearchState → ℕ → Query
query_for s a = record { sub = s.query.sub; sup = name a; on = Any }

-- it does not follow from the axioms of the set, and as many legal steps as the search has made decide that
pub record IsShownApart (s : SearchState) (a : ℕ) : Type 0 where
  pub follows_not : ¬ Entails (named_axioms s.rules.ontology.axioms (member_list s.rules.set)) (query_for s a)
  pub cost : Costs (question_in s.rules.ontology (member_list s.rules.set) (query_for s a))
      (Entails (named_axioms s.rules.ontology.axioms (member_list s.rules.set)) (query_for s a)) s.steps

-- a set of just those classes that were left out, each number greater by one; of each it is shown that the subclass is
-- not in it
pub record AreLeftOut (s : SearchState) (classes : Limited) : Type 0 where
  pub limit_is : classes.limit ≡ length s.rules.ontology.classes
  pub exact : (a : ℕ) → a < length s.rules.ontology.classes
      → (set.contains classes.members (a + 1) ≡ true ↔ LeavesClassOut s a)
  pub apart : (a : ℕ) → a < length s.rules.ontology.classes → set.contains classes.members (a + 1) ≡ true
      → IsShownApart s a

-- the classes that are left out, or none where the search asks for more than its subclass, or of an individual
abbrev pub ShowsApart : SearchState → Option Limited → Type 0
ShowsApart s None = ¬ AsksForAny s
ShowsApart s (Some classes) = AreLeftOut s classes
