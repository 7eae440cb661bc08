-- Where a search is once its trace has gone back from a clash.
use Rattle.std.proofs.Common.{◌≡◌, List, [], ◌∷◌, ◌++◌, length, sym, subst}
use Rattle.lane_sieve.specs.Sets.{NumberSet}
use Rattle.calculus_specs.specs.Rules.{Question}
use Rattle.calculus_specs.specs.Line.{Line}
use Rattle.tableau_specs.specs.Steps.{SearchContext, HasClash}
use Rattle.std.specs.List.{All}
use Rattle.search_trace.specs.Noted.{Noted}
use Rattle.search_trace.specs.Places.{Place}
use Rattle.step_agenda.specs.Trail.{items_of}
use Rattle.search_trace.specs.declared.opens.Back.{Back}
use Rattle.search_trace.specs.declared.opens.Back.TheVariants.{Turned, Closed}
use Rattle.search_trace.specs.Trace.{TraceLists, with_line, gone_back, turned_back, answer_of}
use Rattle.search_trace.specs.Laws.{IsClosingAt, GoesBack, IsLeft}
use Rattle.search_trace.proofs.Traced.{goes_on, goes_back}
use Rattle.search_state.specs.Marked.{marked_in}
use Rattle.search_state.specs.Branchings.{AreMarks}
use Rattle.search_state.specs.Resting.{RestsClash}
use Rattle.search_state.specs.Backing.{closed_trace}
use Rattle.search_state.specs.Progress.{ProgressLists, asked_by, IsFitLine, IsStanding}
use Rattle.search_state.specs.Turning.{HasGoneBack}
use Rattle.search_state.proofs.Moving.{lines_fit}
use Rattle.search_state.proofs.Fitting.{fit_back}

module _ (w : SearchContext) (old : ProgressLists) (st : IsStanding w old) (clash : HasClash w (items_of old.entries))
    (line : Line) (u : NumberSet) (r : RestsClash w old.entries line u) where
  abbrev asked : Question
  asked = asked_by w old

  abbrev start : Noted
  start = st.from

  abbrev lined : TraceLists
  lined = with_line old.trace line u

  closing : IsClosingAt asked w.table start lined st.places u
  closing =
      let at = r.resting.holds (asked_by w old) old.trace.next in
      (goes_on asked w.table start old.trace st.places (marked_in old.entries) st.traced).clash line u at.rule at.holds
      at.children_are

  gone : GoesBack asked w.table start lined st.places u
  gone = goes_back asked w.table start lined st.places u closing

  -- the progress with the trace that has gone back
  abbrev pub back_progress : ProgressLists
  back_progress = record {
    query = old.query;
    at = old.at;
    sub = old.sub;
    not_sup = old.not_sup;
    first = old.first;
    entries = old.entries;
    found_blocks = old.found_blocks;
    trace = closed_trace old.trace line u;
    marks = old.marks;
    clash = old.clash;
    steps = old.steps;
    behind = old.behind;
  }

  fit : All (IsFitLine w old.sub old.not_sup) (turned_back lined u).lines
  fit = fit_back w old.sub old.not_sup lined u (lines_fit w old st old.trace.next line u [] [] r.resting)

  by_left : (left : List Place) (b : Back) → gone.passed ++ left ≡ st.places
      → length left ≡ length (turned_back lined u).opens
      → IsLeft asked w.table start (turned_back lined u) (gone_back lined.lines lined.opens u).used left b
      → HasGoneBack w back_progress b
  by_left [] Closed are count is = record {
    asked = st.asked;
    first_is = st.first_is;
    follows = st.follows;
    blocks = st.blocks;
    has_clash = clash;
    from = start;
    from_is = st.from_is;
    closes = is;
    fit = fit;
  }
  by_left [] (Turned mark marks) are count is = absurd is
  by_left (p ∷ older) Closed are count is = absurd is
  by_left (p ∷ older) (Turned mark marks) are count is = record {
    asked = st.asked;
    first_is = st.first_is;
    follows = st.follows;
    blocks = st.blocks;
    has_clash = clash;
    passed = gone.passed;
    place = p;
    older = older;
    are_marks = subst (λ (ps : List Place). AreMarks w old.entries old.marks ps) (sym are) st.are_marks;
    same_count = sym count;
    mark_is = is.mark_is;
    marks_are = is.marks_are;
    used = (gone_back lined.lines lined.opens u).used;
    has_next = is.has_next;
    from = st.from;
    from_is = st.from_is;
    traced = is.traced;
    fit = fit;
  }

  pub has_gone_back : (b : Back) → b ≡ answer_of lined u → HasGoneBack w back_progress b
  has_gone_back b e =
      subst (λ (a : Back). HasGoneBack w back_progress a) (sym e)
      (by_left gone.left (answer_of lined u) gone.places_are gone.same_count gone.is_left)
