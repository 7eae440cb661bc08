use Rattle.std.proofs.Common.{drop, sym, subst, ap, ◌∙◌}
use Rattle.search_state.specs.Trail.{TreeEntries, items_of}
use Rattle.tableau.specs.SearchState.{SearchState, trail_of}
use Rattle.tableau.specs.Inside.{IsKept}
use Rattle.tableau.specs.Beginning.{BeginningLists}
use Rattle.tableau.proofs.Serving.{has_done}
use Rattle.tableau.proofs.search.Search.beginning.Goals as goal

pub returns : goal.returns
returns g c =
    let s = c.args.self.now in
    let i = c.self.inside in
    let kept = subst (λ (t : SearchState). IsKept t c.self.inside.progress) c.self.view_is c.self.invariant in
    let b : BeginningLists = record { rest = c.in_ok-rest.rest.items; steps = i.steps; seen = c.in_ok-seen.seen } in
    has_done s b (kept.reached c.requires.whole) (kept.has_run c.requires.whole) c.requires.is_clear
    (sym c.can_begin.ensures ∙ c.if-not-can_begin.false)
    (c.in_ok-rest.ensures ∙ ap (λ (t : TreeEntries). drop 2 (items_of t.entries)) c.tree.ensures
    ∙ ap (λ (t : SearchState). drop 2 (trail_of t)) c.self.view_is)
    (ap (λ (t : SearchState). t.steps) c.self.view_is)
    (c.in_ok-seen.ensures ∙ ap (λ (t : SearchState). t.seen) c.self.view_is)
