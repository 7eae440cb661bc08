-- What a step of a search comes to.
use Rattle.std.specs.Prelude.{◌≡◌, ℕ, true, false, List, [], ◌∷◌, ◌++◌, Some, All, Option, None}
use Rattle.tableau_specs.specs.declared.Item.{Item}
use Rattle.tableau_specs.specs.Steps.{SearchContext, IsLegal, IsSaturated, HasClash, HasPlainClash}
use Rattle.tableau_specs.specs.Reached.{start}
use Rattle.search_trace.specs.Leaves.{leaves}
use Rattle.search_trace.specs.Noted.{Noted, start_of}
use Rattle.search_trace.specs.Back.{step_of}
use Rattle.step_agenda.specs.Trail.{facts_in, items_of}
use Rattle.step_agenda.specs.Followed.{AreFirstBlocks, IsCurrent}
use Rattle.search_state.specs.declared.stepping.Stepped.{Stepped}
use Rattle.search_state.specs.declared.stepping.Stepped.TheVariants.{Moved, Saturated, Closed}
use Rattle.search_state.specs.declared.stepping.Rested.{Rested}
use Rattle.search_state.specs.declared.stepping.Rested.TheVariants.{CanMove, Saturated as RestSaturated}
use Rattle.search_state.specs.declared.stepping.Rested.TheVariants.{Closed as RestClosed}
use Rattle.search_state.specs.Progress.{ProgressLists, asked_by, IsFitLine, IsSearching, IsSameQuery, HasMoved}

-- what has begun
pub record HasBegun (w : SearchContext) (s : ProgressLists) : Type 0 where
  pub is_searching : IsSearching w s
  pub current : IsCurrent s.first (facts_in s.entries) s.found_blocks
  pub trail_is : items_of s.entries ≡ start s.at s.sub s.not_sup
  pub no_steps : s.steps ≡ 0
  pub from_nothing : s.behind ≡ false

-- what goes on behind a trail that it was given: these items behind the facts of its start, after so many steps
pub record IsBehind (w : SearchContext) (rest : List Item) (steps : ℕ) (s : ProgressLists) : Type 0 where
  pub is_searching : IsSearching w s
  pub current : IsCurrent s.first (facts_in s.entries) s.found_blocks
  pub trail_is : items_of s.entries ≡ start s.at s.sub s.not_sup ++ rest
  pub counted : s.steps ≡ steps
  pub is_behind : s.behind ≡ true

-- nothing has changed but what is known of blocks
abbrev pub IsSameButBlocks : ProgressLists → ProgressLists → Type 0
IsSameButBlocks old new = new ≡ record old { found_blocks = new.found_blocks }

-- nothing was done but that the blocks of all nodes were found
pub record HasFollowed (old new : ProgressLists) : Type 0 where
  pub same : IsSameButBlocks old new
  pub current : IsCurrent new.first (facts_in new.entries) new.found_blocks

module _ (w : SearchContext) where
  -- The trail is as it was, and has a clash, and the blocks that are known are those of the trail. There is a branch
  -- from which the lines of the trace close everything. It is the query's start, and the lines are a refutation, unless
  -- the search went on behind a trail that it was given.
  pub record IsClosed (old new : ProgressLists) : Type 0 where
    pub same : IsSameQuery old new
    pub entries : new.entries ≡ old.entries
    pub blocks : AreFirstBlocks new.first (facts_in new.entries) new.found_blocks
    pub steps : new.steps ≡ old.steps
    pub has_clash : HasClash w (items_of new.entries)
    pub from : Noted
    pub from_is : new.behind ≡ false → from ≡ start_of (asked_by w new)
    pub closes : leaves (step_of (asked_by w new) w.table) (from ∷ []) new.trace.lines ≡ Some []
    pub fit : All (IsFitLine w new.sub new.not_sup) new.trace.lines

  abbrev pub IsStepped : ProgressLists → ProgressLists → Stepped → Type 0
  IsStepped old new Moved = HasMoved w old new × IsSearching w new
  IsStepped old new Saturated = HasFollowed old new × IsSaturated w (items_of new.entries)
  IsStepped old new Closed = IsClosed old new

  -- no step was made but that the blocks of all nodes were found, and there is no plain clash
  pub record IsIdle (old new : ProgressLists) : Type 0 where
    pub same : IsSameButBlocks old new
    pub current : IsCurrent new.first (facts_in new.entries) new.found_blocks
    pub searching : IsSearching w new
    pub none : ¬ HasPlainClash w (items_of new.entries)

  -- what a step comes to, or that none was seen
  abbrev pub IsSteppedElsewhere : ProgressLists → ProgressLists → Option Stepped → Type 0
  IsSteppedElsewhere old new (Some e) = IsStepped old new e
  IsSteppedElsewhere old new None = IsIdle old new

  -- there is a legal step
  pub record HasNext (s : ProgressLists) : Type 0 where
    pub next : List Item
    pub is_legal : IsLegal w (items_of s.entries) next

  abbrev pub IsRested : ProgressLists → ProgressLists → Rested → Type 0
  IsRested old new CanMove = IsSameButBlocks old new × IsSearching w new × HasNext new
  IsRested old new RestSaturated = HasFollowed old new × IsSaturated w (items_of new.entries)
  IsRested old new RestClosed = IsClosed old new
