use Rattle.step_lines.proofs.Branching.{both_serve}
use Rattle.step_lines.proofs.clash.line_of_both.Goals as goal

pub returns-clause-serves : goal.returns-clause-serves
returns-clause-serves g c =
    both_serve (g.R.Rules.context c.args.search.now.rules.now) (g.S.State.facts c.args.search.now.state.now)
    c.is_ready.ensures.tabled
    c.args.node c.args.class c.args.complement c.requires c.in_ok-grounds.grounds.items c.in_ok-grounds.ensures
