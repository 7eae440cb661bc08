use Rattle.step_lines.proofs.Branching.{bottom_serves}
use Rattle.step_lines.proofs.clash.line_of_bottom.Goals as goal

pub returns-clause-serves : goal.returns-clause-serves
returns-clause-serves g c =
    bottom_serves (g.R.Rules.context c.args.search.now.rules.now) (g.S.State.facts c.args.search.now.state.now)
    c.is_ready.ensures.tabled
    c.args.node c.args.concept c.requires c.in_ok-grounds.grounds.items c.in_ok-grounds.ensures
