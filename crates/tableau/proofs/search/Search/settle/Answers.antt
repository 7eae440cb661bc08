use Rattle.std.proofs.Common.{◌≡◌, false, not, refl, subst, sym, ap, ◌∙◌}
use Rattle.tableau.specs.SearchState.{SearchState}
use Rattle.tableau.specs.Inside.{IsHalted}
use Rattle.tableau.proofs.Kept.{state, end_is, settled_kept, halted_steps}
use Rattle.tableau.proofs.search.Search.settle.Goals as goal

pub returns-clause-halted : goal.returns-clause-halted
returns-clause-halted g c =
    let i = c.self.inside in
    let whole : i.failed ≡ false = ap (λ (s : SearchState). s.failed) c.self.view_is ∙ c.requires.whole in
    let goes : i.ended ≡ false = ap (λ (s : SearchState). s.ended) c.self.view_is ∙ c.requires.goes_on in
    let p = c.settle.new.progress in
    let e = c.in_ok-end.end in
    let counts : i.steps ≡ p.steps =
    sym (halted_steps i.rules.now i.query.now i.sub i.not_sup i.progress p i.seen i.seen i.steps i.steps i.behind
    i.ended i.failed c.self.invariant whole goes e c.in_ok-end.ensures.settled) in
    subst (λ (s : SearchState). IsHalted s
    (state i.rules.now i.query.now i.sub i.not_sup p i.seen i.steps i.behind (not c.is_spent.result) false) e)
    c.self.view_is
    (end_is i.rules.now i.query.now i.sub i.not_sup i.progress p i.seen i.seen i.steps i.steps i.behind i.ended i.failed
    c.self.invariant whole goes e c.in_ok-end.ensures.settled counts c.is_spent.result c.is_spent.ensures)

pub invariant_of-self-2 : goal.invariant_of-self-2
invariant_of-self-2 g c =
    let i = c.self.inside in
    let whole : i.failed ≡ false = ap (λ (s : SearchState). s.failed) c.self.view_is ∙ c.requires.whole in
    let goes : i.ended ≡ false = ap (λ (s : SearchState). s.ended) c.self.view_is ∙ c.requires.goes_on in
    settled_kept i.rules.now i.query.now i.sub i.not_sup i.progress c.settle.new.progress i.seen i.seen i.steps i.steps
    i.behind i.ended i.failed c.self.invariant whole goes c.in_ok-end.end c.in_ok-end.ensures.settled refl refl
    c.is_spent.result
    c.is_spent.ensures
