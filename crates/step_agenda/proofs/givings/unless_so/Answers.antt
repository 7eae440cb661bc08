use Rattle.std.proofs.Common.{arith}
use Rattle.step_finders.proofs.Giving.{given_speaks}
use Rattle.step_agenda.proofs.givings.unless_so.Goals as goal

pub is_so-requires : goal.is_so-requires
is_so-requires g c =
    given_speaks (g.R.Rules.context c.args.search.now.rules.now) (g.S.State.facts c.args.search.now.state.now)
    (g.S.State.first c.args.search.now.state.now) _ c.args.search.now.one_first
    (c.given-given.ensures.each c.args.place _ (omega (arith, c.if-place-given.false)))
