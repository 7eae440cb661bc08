-- Where a search is that has gone back in its trace.
use Rattle.std.specs.Prelude.{◌≡◌, ℕ, false, List, [], ◌∷◌, ◌++◌, Some, All, length, map}
use Rattle.std.specs.FinSet as sets
use Rattle.lane_sieve.specs.Sets.{NumberSet}
use Rattle.calculus_specs.specs.declared.facts.Fact.{Fact}
use Rattle.tableau_specs.specs.Steps.{SearchContext, HasClash}
use Rattle.tableau_specs.specs.Reached.{start, Follows}
use Rattle.search_trace.specs.Premises.{Added}
use Rattle.search_trace.specs.Leaves.{leaves}
use Rattle.search_trace.specs.Noted.{marked, Noted, start_of}
use Rattle.search_trace.specs.Trail.{Puts}
use Rattle.search_trace.specs.Back.{step_of}
use Rattle.search_trace.specs.Places.{Place, turned_place}
use Rattle.step_agenda.specs.Trail.{facts_in, items_of}
use Rattle.step_agenda.specs.Followed.{AreFirstBlocks}
use Rattle.search_trace.specs.declared.opens.Back.{Back}
use Rattle.search_trace.specs.declared.opens.Back.TheVariants.{Turned, Closed}
use Rattle.search_trace.specs.Laws.{IsTracedAt}
use Rattle.search_state.specs.Branchings.{AreMarks}
use Rattle.search_state.specs.Progress.{ProgressLists, asked_by, IsAsked, IsFitLine}

-- The trail is as it was, and has a clash. The trace has gone back to a branching that is to take its next alternative,
-- whose fact rests on these marks.
pub record IsTurning (w : SearchContext) (s : ProgressLists) (mark : ℕ) (marks : NumberSet) : Type 0 where
  pub asked : IsAsked w s.query s.at s.sub s.not_sup
  pub first_is : s.first ≡ w.first
  pub follows : Follows w (start s.at s.sub s.not_sup) s.steps (items_of s.entries)
  pub blocks : AreFirstBlocks s.first (facts_in s.entries) s.found_blocks
  pub has_clash : HasClash w (items_of s.entries)
  pub passed : List Place
  pub place : Place
  pub older : List Place
  pub are_marks : AreMarks w s.entries s.marks (passed ++ place ∷ older)
  pub same_count : length s.trace.opens ≡ length (place ∷ older)
  pub mark_is : mark ≡ place.mark
  pub marks_are : marks ≡ sets.insert place.marks place.mark
  pub used : NumberSet
  pub has_next : (a : Added) × (rest : List Added) × (place.rest ≡ a ∷ rest)
  pub from : Noted
  pub from_is : s.behind ≡ false → from ≡ start_of (asked_by w s)
  pub traced : (a : Added) (rest : List Added) (new : List (Fact ℕ)) → place.rest ≡ a ∷ rest
      → Puts w.first w.table a new
      → IsTracedAt (asked_by w s) w.table from s.trace
      (turned_place place s.trace.lines used rest ∷ older) (place.facts ++ map (marked marks) new)
  pub fit : All (IsFitLine w s.sub s.not_sup) s.trace.lines

-- The trail has a clash, and there is a branch from which the lines of the trace close everything. It is the query's
-- start, unless the search went on behind a trail that it was given.
pub record IsClosing (w : SearchContext) (s : ProgressLists) : Type 0 where
  pub asked : IsAsked w s.query s.at s.sub s.not_sup
  pub first_is : s.first ≡ w.first
  pub follows : Follows w (start s.at s.sub s.not_sup) s.steps (items_of s.entries)
  pub blocks : AreFirstBlocks s.first (facts_in s.entries) s.found_blocks
  pub has_clash : HasClash w (items_of s.entries)
  pub from : Noted
  pub from_is : s.behind ≡ false → from ≡ start_of (asked_by w s)
  pub closes : leaves (step_of (asked_by w s) w.table) (from ∷ []) s.trace.lines ≡ Some []
  pub fit : All (IsFitLine w s.sub s.not_sup) s.trace.lines

-- where a search is after going back: at a branching that turns, or closing
abbrev pub HasGoneBack : SearchContext → ProgressLists → Back → Type 0
HasGoneBack w s (Turned mark marks) = IsTurning w s mark marks
HasGoneBack w s Closed = IsClosing w s
