-- What a search comes to that leaves the node in question out.
use Rattle.std.proofs.Common.{◌≡◌, ℕ, List, Option, Some, None, refl, ap, ◌∙◌, sym, subst}
use Rattle.calculus_specs.specs.declared.facts.Fact.{Fact}
use Rattle.tableau_specs.specs.Clash.{IsPlainClash}
use Rattle.tableau_specs.specs.Steps.{SearchContext, below_of}
use Rattle.step_agenda.specs.Followed.{IsCurrent}
use Rattle.step_agenda.specs.Trail.{facts_in}
use Rattle.search_state.specs.Progress.{ProgressLists, IsSearching, IsClashOf}
use Rattle.search_state.specs.Stepping.{IsSameButBlocks, IsIdle, IsSteppedElsewhere}
use Rattle.search_state.specs.declared.stepping.Stepped.{Stepped}
use Rattle.search_state.proofs.Entries.{facts-items}
use Rattle.search_state.proofs.Followed.{stepped_after}

-- where nothing has changed
pub is_idle : (w : SearchContext) (old new : ProgressLists) → new ≡ old → IsSearching w old
    → IsCurrent old.first (facts_in old.entries) old.found_blocks → IsClashOf w (facts_in old.entries) None
    → IsIdle w old new
is_idle w old new same searching current none = subst (λ (q : ProgressLists). IsIdle w old q) (sym same) (record {
  same = refl;
  current = current;
  searching = searching;
  none =
      subst (λ (fs : List (Fact ℕ)). ¬ IsPlainClash w.first (below_of w) w.table fs) (sym (facts-items old.entries))
      none;
})

-- what a step elsewhere comes to
pub elsewhere_after : (w : SearchContext) (old mid new : ProgressLists) → IsSameButBlocks old mid
    → (s : Option Stepped)
    → IsSteppedElsewhere w mid new s → IsSteppedElsewhere w old new s
elsewhere_after w old mid new same (Some s) h = stepped_after w old mid new same s h
elsewhere_after w old mid new same None h = record {
  same = h.same ∙ ap (λ (q : ProgressLists). record q { found_blocks = new.found_blocks }) same;
  current = h.current;
  searching = h.searching;
  none = h.none;
}
