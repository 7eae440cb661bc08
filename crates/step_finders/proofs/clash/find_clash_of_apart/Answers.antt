use Rattle.std.proofs.Common.{◌≡◌, ◌∙◌, true, ℕ, arith, get_or, sym}
use Rattle.calculus_specs.specs.State.{has}
use Rattle.step_finders.specs.Clashing.{NoneAbove, IsShown}
use Rattle.step_finders.proofs.Each.{each_more, none_said}
use Rattle.step_finders.proofs.Clashing.{no_clash_by_apart}
use Rattle.step_finders.proofs.clash.find_clash_of_apart.Goals as goal

pub returns : goal.returns
returns g c =
    no_clash_by_apart (g.R.Rules.context c.args.search.now.rules.now) (g.S.State.facts c.args.search.now.state.now)
    c.args.first c.args.second
    c.label-concept-items.result.now
    (λ one. c.if-representative.false (c.representative.ensures ∙ one ∙ sym c.representative-2.ensures))
    c.label-concept-items.ensures
    (λ k d lt. c.loop-concept.invariant k d (omega (arith, lt, c.loop-concept-test.false)))

pub loop-concept-preserved : goal.loop-concept-preserved
loop-concept-preserved g c =
    let w = g.R.Rules.context c.args.search.now.rules.now in
    let fs = g.S.State.facts c.args.search.now.state.now in
    each_more (λ (e : ℕ). has fs c.args.second e ≡ true → NoneAbove w fs c.args.first e)
    c.label-concept-items.result.now c.loop-concept.concept-index 0 c.loop-concept.invariant
    (omega (arith, c.loop-concept-test.true))
    (none_said
    (has fs c.args.second (get_or c.label-concept-items.result.now c.loop-concept.concept-index 0) ≡ true
    → NoneAbove w fs c.args.first (get_or c.label-concept-items.result.now c.loop-concept.concept-index 0))
    (IsShown w fs)
    c.find_shared.result c.in-None.is c.find_shared.ensures)
