use Rattle.std.proofs.Common.{ap, arith, length}
use Rattle.calculus_specs.specs.State.{all_apart}
use Rattle.tableau_specs.specs.Steps.{below_of}
use Rattle.step_finders.proofs.Later.{from_first}
use Rattle.step_finders.proofs.overrun.is_overrun.Goals as goal

pub loop-next-init : goal.loop-next-init
loop-next-init g c =
    let fs = g.S.State.facts c.args.search.now.state.now in
    let all =
    from_first (g.R.Rules.context c.args.search.now.rules.now).first
    (below_of (g.R.Rules.context c.args.search.now.rules.now)) fs c.args.node
    c.args.role c.args.filler in
    (omega (arith, ap length all), ap (all_apart fs) all, omega arith, c.count_of-nodes.ensures.count)
