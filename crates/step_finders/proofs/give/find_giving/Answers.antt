use Rattle.std.proofs.Common.{arith}
use Rattle.step_finders.proofs.Giving.{given_speaks, nothing_to_give}
use Rattle.step_finders.proofs.give.find_giving.Goals as goal

pub is_so-requires : goal.is_so-requires
is_so-requires g c =
    given_speaks (g.R.Rules.context c.args.search.now.rules.now) (g.S.State.facts c.args.search.now.state.now)
    (g.S.State.first c.args.search.now.state.now) _ c.args.search.now.one_first
    (c.given-given-items.ensures.each c.loop-given.given-index _ (omega (arith, c.loop-given-test.true)))

pub returns : goal.returns
returns g c =
    nothing_to_give (g.R.Rules.context c.args.search.now.rules.now) c.is_ready.ensures.tabled
    (g.S.State.facts c.args.search.now.state.now)
    c.given-given-items.result.now c.given-given-items.ensures
    (λ k d lt. c.loop-given.invariant k d (omega (arith, lt, c.loop-given-test.false)))
