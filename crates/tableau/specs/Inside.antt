-- What a search keeps, and what one call on its progress comes to.
use Rattle.std.specs.Prelude.{◌≡◌, ℕ, ◌-◌, min, drop, Bool, true, false, List, [], ◌∷◌, length, Option, Some}
use Rattle.std.specs.Prelude.{None, All}
use Rattle.search_rules.specs.Limits.{IsInLimit}
use Rattle.closed_search.specs.RefutationLists.{RefutationLists}
use Rattle.tableau_specs.specs.declared.Item.{Item}
use Rattle.tableau_specs.specs.Steps.{IsLegal, IsSaturated, HasClash}
use Rattle.tableau_specs.specs.Items.{facts_of}
use Rattle.search_state.specs.Entry.{Entry}
use Rattle.search_state.specs.Trail.{items_of, facts_in}
use Rattle.tableau.specs.Seen.{SeenSets, HasNoted, HasTold}
use Rattle.closed_search.specs.Leaves.{leaves}
use Rattle.closed_search.specs.Noted.{start_of}
use Rattle.closed_search.specs.Trace.{begun}
use Rattle.closed_search.specs.Back.{step_of}
use Rattle.closed_search.specs.Theory.{node_in_question}
use Rattle.search_rules.specs.RuleLists.{RuleLists, AreNumbersOf, context_in}
use Rattle.search_state.specs.Progress.{ProgressLists, asked_by, IsAsked, IsFitLine, IsSearching, HasMoved}
use Rattle.search_state.specs.Stepping.{HasNext, HasFollowed, IsIdle, IsSameButBlocks}
use Rattle.search_state.specs.Followed.{AreFirstBlocks}
use Rattle.tableau.specs.SearchState.{SearchState, question_of, context_of, trail_of, IsReachedBy, HasRun}
use Rattle.tableau.specs.Steps.{Refutes, Stays, IsAtModel, IsAtRefutation, IsLost}
use Rattle.tableau.specs.declared.search.Event.{Event}
use Rattle.tableau.specs.declared.search.Event.TheVariants.{Moved, Saturated, Closed, Lost}
use Rattle.tableau.specs.declared.search.End.{End}
use Rattle.tableau.specs.declared.search.End.TheVariants.{Saturated as RunSaturated, Closed as RunClosed}
use Rattle.tableau.specs.declared.search.End.TheVariants.{Lost as RunLost, Spent}

-- ---- what is kept

-- the progress is that of the search
pub record IsProgressOf (s : SearchState) (p : ProgressLists) : Type 0 where
  pub query : p.query ≡ s.query
  pub at : p.at ≡ (question_of s).at
  pub sub : p.sub ≡ s.sub
  pub not_sup : p.not_sup ≡ s.not_sup
  pub steps : p.steps ≡ s.steps
  pub behind : p.behind ≡ s.behind

-- the ontology and the query are within the limits, the set is one of the ontology's axioms, the numbers are the
-- query's, and unless memory was refused the first nodes are those of the rules, the trail is reached by a run whose
-- classes were noted, the blocks that are known are those of the trail, and it can go on until the search has ended
pub record IsKept (s : SearchState) (p : ProgressLists) : Type 0 where
  pub in_limit : IsInLimit s.rules.ontology s.query
  pub set : s.rules.set.limit ≡ length s.rules.ontology.axioms
  pub numbers : AreNumbersOf s.rules s.query s.sub s.not_sup
  pub first_is : s.failed ≡ false → s.first ≡ (context_of s).first
  pub reached : s.failed ≡ false → IsReachedBy s
  pub has_run : s.failed ≡ false → HasRun s
  pub blocks : s.failed ≡ false → AreFirstBlocks s.first (facts_in s.entries) s.found_blocks
  pub progress : s.failed ≡ false → s.ended ≡ false → IsProgressOf s p
  pub searching : s.failed ≡ false → s.ended ≡ false → IsSearching (context_of s) p

-- ---- closing

-- the progress asks of the node that its query asks of
abbrev pub IsAtQuestion : RuleLists → ProgressLists → Type 0
IsAtQuestion rules p = p.at ≡ node_in_question (length rules.ontology.individuals) p.query.on

-- the lines of the trace close everything, from the query's start on where the search began with it
pub record IsClosing (rules : RuleLists) (p : ProgressLists) : Type 0 where
  pub in_limit : IsInLimit rules.ontology p.query
  pub set : rules.set.limit ≡ length rules.ontology.axioms
  pub asked : IsAsked (context_in rules) p.query p.at p.sub p.not_sup
  pub at_is : IsAtQuestion rules p
  pub closes : p.behind ≡ false
      → leaves (step_of (asked_by (context_in rules) p) rules.table)
      (start_of (asked_by (context_in rules) p) ∷ []) p.trace.lines
      ≡ Some []
  pub fit : All (IsFitLine (context_in rules) p.sub p.not_sup) p.trace.lines

-- the trail stays, it has a clash, the blocks that are known are those of the trail, and the refutation is one of the
-- query
pub record HasClosed (rules : RuleLists) (r : RefutationLists) (old new : ProgressLists) : Type 0 where
  pub entries : new.entries ≡ old.entries
  pub first : new.first ≡ old.first
  pub blocks : AreFirstBlocks new.first (facts_in new.entries) new.found_blocks
  pub steps : new.steps ≡ old.steps
  pub has_clash : HasClash (context_in rules) (items_of new.entries)
  pub refutes : Refutes rules old.query r

-- the same without a refutation, which there is none where the search went on behind the beginning of another one
pub record HasLost (rules : RuleLists) (old new : ProgressLists) : Type 0 where
  pub entries : new.entries ≡ old.entries
  pub first : new.first ≡ old.first
  pub blocks : AreFirstBlocks new.first (facts_in new.entries) new.found_blocks
  pub steps : new.steps ≡ old.steps
  pub has_clash : HasClash (context_in rules) (items_of new.entries)
  pub is_behind : old.behind ≡ true

-- what closing comes to: a refutation, for which the lines leave the progress, or none
abbrev pub IsClosedBy : RuleLists → ProgressLists → ProgressLists → Option RefutationLists → Type 0
IsClosedBy rules old new (Some r) = (new ≡ record old { trace = begun }) × Refutes rules old.query r
IsClosedBy rules old new None = (new ≡ old) × (old.behind ≡ true)

-- what a step comes to that closes everything
abbrev pub closing_event : Option RefutationLists → Event
closing_event (Some r) = Closed r
closing_event None = Lost

-- and a run
abbrev pub closing_end : Option RefutationLists → End
closing_end (Some r) = RunClosed r
closing_end None = RunLost

-- ---- one call

-- what one call on the progress of a search comes to, for each event
abbrev pub IsAdvanced : RuleLists → ProgressLists → ProgressLists → Event → Type 0
IsAdvanced rules old new Moved = HasMoved (context_in rules) old new × IsSearching (context_in rules) new
IsAdvanced rules old new Saturated = HasFollowed old new × IsSaturated (context_in rules) (items_of new.entries)
IsAdvanced rules old new (Closed r) = HasClosed rules r old new
IsAdvanced rules old new Lost = HasLost rules old new

-- what a run on the progress of a search comes to, for each end
abbrev pub IsSettled : RuleLists → ProgressLists → ProgressLists → End → Type 0
IsSettled rules old new Spent = IsSameButBlocks old new × IsSearching (context_in rules) new
    × HasNext (context_in rules) new
IsSettled rules old new RunSaturated = HasFollowed old new × IsSaturated (context_in rules) (items_of new.entries)
IsSettled rules old new (RunClosed r) = HasClosed rules r old new
IsSettled rules old new RunLost = HasLost rules old new

-- the facts are noted that a step has put, in a trail that had so many entries before
abbrev pub HasNotedNew : RuleLists → ℕ → ℕ → List Entry → SeenSets → SeenSets → Type 0
HasNotedNew rules at before entries old new =
    HasNoted at rules.table (facts_of (drop (min before (length entries - 1)) (items_of entries))) old new

-- and what tells other nodes apart, in a tree with so many first nodes
abbrev pub HasToldNew : RuleLists → ℕ → ℕ → ℕ → List Entry → SeenSets → SeenSets → Type 0
HasToldNew rules first at before entries old new =
    HasTold first at rules.table (facts_in entries)
    (facts_of (drop (min before (length entries - 1)) (items_of entries))) old new

-- what is noted of the classes that a search has to do with, after each event
abbrev pub IsNotedAfter : RuleLists → ProgressLists → ProgressLists → SeenSets → SeenSets → Event → Type 0
IsNotedAfter rules p q old new Moved = HasNotedNew rules p.at (length p.entries) q.entries old new
    × HasToldNew rules q.first p.at (length p.entries) q.entries old new
IsNotedAfter rules p q old new Saturated = new ≡ old
IsNotedAfter rules p q old new (Closed r) = new ≡ old
IsNotedAfter rules p q old new Lost = new ≡ old

-- what a step elsewhere than at the node in question comes to, on the progress of a search; none was seen where no
-- event is given
abbrev pub IsAdvancedElsewhere : RuleLists → ProgressLists → ProgressLists → Option Event → Type 0
IsAdvancedElsewhere rules old new (Some event) = IsAdvanced rules old new event
IsAdvancedElsewhere rules old new None = IsIdle (context_in rules) old new

-- and what is noted then
abbrev pub IsNotedElsewhere : RuleLists → ProgressLists → ProgressLists → SeenSets → SeenSets → Option Event → Type 0
IsNotedElsewhere rules p q old new (Some event) = IsNotedAfter rules p q old new event
IsNotedElsewhere rules p q old new None = new ≡ old

-- whether the search goes on
abbrev pub goes_on : Event → Bool
goes_on Moved = true
goes_on Saturated = false
goes_on (Closed r) = false
goes_on Lost = false

-- how a run ends by what a step came to, if it does
abbrev pub end_by : Event → Option End
end_by Moved = None
end_by Saturated = Some RunSaturated
end_by (Closed r) = Some (RunClosed r)
end_by Lost = Some RunLost

-- whether the search goes on after a step elsewhere
abbrev pub goes_on_elsewhere : Option Event → Bool
goes_on_elsewhere (Some event) = goes_on event
goes_on_elsewhere None = true

-- the run ended since its steps were spent
abbrev pub is_spent : End → Bool
is_spent Spent = true
is_spent RunSaturated = false
is_spent (RunClosed r) = false
is_spent RunLost = false

-- no step is made, and the search ends where there is none
abbrev pub IsHalted : SearchState → SearchState → End → Type 0
IsHalted old new Spent = Stays old new × (new.ended ≡ false) × (next : List Item)
    × IsLegal (context_of new) (trail_of new) next
IsHalted old new RunSaturated = Stays old new × IsAtModel new
IsHalted old new (RunClosed r) = Stays old new × IsAtRefutation r new
IsHalted old new RunLost = Stays old new × IsLost new
