use Rattle.std.proofs.Common.{◌≡◌, ℕ, ◌<◌, true, not, sym, subst, ◌∙◌}
use Rattle.tableau.specs.Seen.{holds, has_seen}
use Rattle.tableau.specs.SearchState.{SearchState, is_any}
use Rattle.tableau.specs.Steps.{AsksForAny}
use Rattle.tableau.proofs.Kept.{state}
use Rattle.tableau.specs.Inside.{IsKept}
use Rattle.tableau.proofs.Apart.{any_is, asks_for_any, left_out_classes}
use Rattle.tableau.proofs.search.Search.classes_apart.Goals as goal

pub returns : goal.returns
returns g c =
    let s = c.args.self.now in
    let j = c.self.inside in
    let i : SearchState =
    state j.rules.now j.query.now j.sub j.not_sup j.progress j.seen j.steps j.behind j.ended j.failed in
    let classes = c.in_ok-classes.classes in
    let kept = subst (λ (t : SearchState). IsKept t c.self.inside.progress) c.self.view_is c.self.invariant in
    let whole = c.requires.whole in
    let limit =
    subst (λ (t : SearchState). classes.limit ≡ t.seen.at_node.limit) c.self.view_is c.in_ok-classes.ensures.limit in
    let exact =
    subst (λ (t : SearchState). (a : ℕ) → a < t.seen.at_node.limit → holds classes a ≡ not (has_seen t.seen a))
    c.self.view_is c.in_ok-classes.ensures.exact in
    let on_any : is_any c.self.inside.query.now.on ≡ true = sym c.is_on_any.ensures ∙ c.if-not-is_on_any.false in
    let any = subst AsksForAny c.self.view_is (asks_for_any i (any_is i.query.on on_any) c.if-self-ne0.false) in
    left_out_classes s kept.in_limit kept.numbers (kept.reached whole) (kept.has_run whole) c.requires.ended any classes
    limit exact
