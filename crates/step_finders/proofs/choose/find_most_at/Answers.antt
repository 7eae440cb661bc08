use Rattle.std.proofs.Common.{arith}
use Rattle.step_finders.proofs.Chosen.{no_most_by_label}
use Rattle.step_finders.proofs.choose.find_most_at.Goals as goal

pub returns : goal.returns
returns g c =
    no_most_by_label (g.R.Rules.context c.args.search.now.rules.now) (g.S.State.facts c.args.search.now.state.now)
    c.args.node
    c.label-concept-items.result.now c.label-concept-items.ensures
    (λ k d lt. c.loop-concept.invariant k d (omega (arith, lt, c.loop-concept-test.false)))
