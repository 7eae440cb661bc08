use Rattle.step_lines.proofs.Branching.{differ_serves}
use Rattle.step_lines.proofs.clash.line_of_differ.Goals as goal

pub returns-clause-serves : goal.returns-clause-serves
returns-clause-serves g c =
    differ_serves (g.R.Rules.context c.args.search.now.rules.now) (g.S.State.facts c.args.search.now.state.now)
    c.is_ready.ensures.tabled
    c.args.first c.args.second c.requires c.in_ok-grounds.grounds.items c.in_ok-grounds.ensures
