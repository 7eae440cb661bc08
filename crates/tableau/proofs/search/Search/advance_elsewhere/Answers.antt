use Rattle.std.proofs.Common.{◌≡◌, false, not, subst, ap, ◌∙◌}
use Rattle.tableau.specs.SearchState.{SearchState}
use Rattle.tableau.specs.Beginning.{IsEventElsewhere}
use Rattle.tableau.proofs.Kept.{state, elsewhere_is, elsewhere_kept}
use Rattle.tableau.proofs.search.Search.advance_elsewhere.Goals as goal

pub returns-clause-event : goal.returns-clause-event
returns-clause-event g c =
    let i = c.self.inside in
    let whole : i.failed ≡ false = ap (λ (s : SearchState). s.failed) c.self.view_is ∙ c.requires.whole in
    let goes : i.ended ≡ false = ap (λ (s : SearchState). s.ended) c.self.view_is ∙ c.requires.goes_on in
    let p = c.advance_elsewhere.new.progress in
    let e = c.in_ok-event.event in
    subst (λ (s : SearchState). IsEventElsewhere s
    (state i.rules.now i.query.now i.sub i.not_sup p c.advance_elsewhere.new.seen c.steps-self-inside.result i.behind
    (not c.goes_on_elsewhere.result) false)
    e)
    c.self.view_is
    (elsewhere_is i.rules.now i.query.now i.sub i.not_sup i.progress p i.seen c.advance_elsewhere.new.seen i.steps
    c.steps-self-inside.result i.behind i.ended i.failed c.self.invariant whole goes e c.in_ok-event.ensures.advanced
    c.steps-self-inside.ensures c.goes_on_elsewhere.result c.goes_on_elsewhere.ensures)

pub invariant_of-self-2 : goal.invariant_of-self-2
invariant_of-self-2 g c =
    let i = c.self.inside in
    let whole : i.failed ≡ false = ap (λ (s : SearchState). s.failed) c.self.view_is ∙ c.requires.whole in
    let goes : i.ended ≡ false = ap (λ (s : SearchState). s.ended) c.self.view_is ∙ c.requires.goes_on in
    let p = c.advance_elsewhere.new.progress in
    elsewhere_kept i.rules.now i.query.now i.sub i.not_sup i.progress p i.seen c.advance_elsewhere.new.seen i.steps
    c.steps-self-inside.result i.behind i.ended i.failed c.self.invariant whole goes c.in_ok-event.event
    c.in_ok-event.ensures.advanced c.in_ok-event.ensures.noted c.steps-self-inside.ensures c.goes_on_elsewhere.result
    c.goes_on_elsewhere.ensures
