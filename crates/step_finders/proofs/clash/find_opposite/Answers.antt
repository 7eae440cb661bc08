use Rattle.std.proofs.Common.{sym}
use Rattle.step_finders.proofs.Chosen.{other_complements}
use Rattle.step_finders.proofs.clash.find_opposite.Goals as goal

pub returns-else-has : goal.returns-else-has
returns-else-has g c = λ d is.
    other_complements (g.R.Rules.context c.args.search.now.rules.now).table c.is_ready.ensures.tabled
    (g.S.State.facts c.args.search.now.state.now) c.args.node c.args.concept c.in-Some.complement
    c.in-Some.ensures (sym c.if-has.ensures) d is
