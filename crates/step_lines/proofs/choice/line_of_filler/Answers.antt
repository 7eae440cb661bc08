use Rattle.step_lines.proofs.Branching.{filler_serves}
use Rattle.step_lines.proofs.choice.line_of_filler.Goals as goal

pub returns : goal.returns
returns g c =
    filler_serves (g.R.Rules.context c.args.search.now.rules.now) (g.S.State.facts c.args.search.now.state.now)
    c.is_ready.ensures.tabled
    c.args.node c.args.filler c.args.from c.args.role c.args.concept c.requires c.in_ok-grounds.grounds.items
    c.in_ok-grounds.ensures
