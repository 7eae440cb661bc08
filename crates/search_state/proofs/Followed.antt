-- What is so of a search is so where nothing has changed but what is known of blocks.
use Rattle.std.proofs.Common.{◌≡◌, List, None, ap, sym, subst}
use Rattle.tableau_specs.specs.Steps.{SearchContext}
use Rattle.step_agenda.specs.Entry.{Entry}
use Rattle.step_agenda.specs.Trail.{facts_in}
use Rattle.step_agenda.specs.Followed.{AreFirstBlocks}
use Rattle.step_agenda.proofs.BlockLists.{all_are_first}
use Rattle.search_state.specs.Progress.{ProgressLists, IsStanding, IsClashOf, IsSearching}
use Rattle.search_state.specs.Stepping.{IsSameButBlocks, HasFollowed, IsStepped}
use Rattle.search_state.specs.declared.stepping.Stepped.{Stepped}
use Rattle.search_state.specs.declared.stepping.Stepped.TheVariants.{Moved, Saturated, Closed}

pub entries_same : (old new : ProgressLists) → IsSameButBlocks old new → new.entries ≡ old.entries
entries_same old new same = ap (λ (q : ProgressLists). q.entries) same

-- all blocks are those that are there
pub followed_first : (old new : ProgressLists) → HasFollowed old new
    → AreFirstBlocks new.first (facts_in new.entries) new.found_blocks
followed_first old new h = all_are_first new.first (facts_in new.entries) new.found_blocks h.current

pub still_stands : (w : SearchContext) (old new : ProgressLists) → IsSameButBlocks old new
    → AreFirstBlocks new.first (facts_in new.entries) new.found_blocks → IsStanding w old → IsStanding w new
still_stands w old new same first st = subst (λ (q : ProgressLists). IsStanding w q) (sym same) (record {
  asked = st.asked;
  first_is = st.first_is;
  follows = st.follows;
  blocks = subst (λ (q : ProgressLists). AreFirstBlocks q.first (facts_in q.entries) new.found_blocks) same first;
  places = st.places;
  from = st.from;
  from_is = st.from_is;
  traced = st.traced;
  are_marks = st.are_marks;
  grounded = st.grounded;
  fit = st.fit;
})

pub still_none : (w : SearchContext) (old new : ProgressLists) → IsSameButBlocks old new
    → IsClashOf w (facts_in old.entries) None → IsClashOf w (facts_in new.entries) None
still_none w old new same none =
    subst (λ (es : List Entry). IsClashOf w (facts_in es) None) (sym (entries_same old new same)) none

pub still_searches : (w : SearchContext) (old new : ProgressLists) → IsSameButBlocks old new
    → AreFirstBlocks new.first (facts_in new.entries) new.found_blocks → IsSearching w old → IsSearching w new
still_searches w old new same first h = record {
  standing = still_stands w old new same first h.standing;
  clash = subst (λ (q : ProgressLists). IsClashOf w (facts_in q.entries) q.clash) (sym same) h.clash;
}

-- what a step comes to
pub stepped_after : (w : SearchContext) (old mid new : ProgressLists) → IsSameButBlocks old mid → (s : Stepped)
    → IsStepped w mid new s → IsStepped w old new s
stepped_after w old mid new same s h = by_kind s (subst (λ (q : ProgressLists). IsStepped w q new s) same h)
  where
    before : ProgressLists
    before = record old { found_blocks = mid.found_blocks }

    by_kind : (s : Stepped) → IsStepped w before new s → IsStepped w old new s
    by_kind Moved h = (
      record {
        same = record {
          query = h.0.same.query;
          at = h.0.same.at;
          sub = h.0.same.sub;
          not_sup = h.0.same.not_sup;
          first = h.0.same.first;
          behind = h.0.same.behind;
        };
        standing = h.0.standing;
        is_legal = h.0.is_legal;
        counted = h.0.counted;
      },
      h.1,
    )
    by_kind Saturated h = (record { same = h.0.same; current = h.0.current }, h.1)
    by_kind Closed h = record {
      same = record {
        query = h.same.query;
        at = h.same.at;
        sub = h.same.sub;
        not_sup = h.same.not_sup;
        first = h.same.first;
        behind = h.same.behind;
      };
      entries = h.entries;
      blocks = h.blocks;
      steps = h.steps;
      has_clash = h.has_clash;
      from = h.from;
      from_is = h.from_is;
      closes = h.closes;
      fit = h.fit;
    }
