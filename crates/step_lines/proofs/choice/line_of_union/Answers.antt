use Rattle.step_lines.proofs.Branching.{union_serves}
use Rattle.step_lines.proofs.choice.line_of_union.Goals as goal

pub returns : goal.returns
returns g c =
    union_serves (g.R.Rules.context c.args.search.now.rules.now) (g.S.State.facts c.args.search.now.state.now)
    c.is_ready.ensures.tabled
    c.args.node c.args.concept c.requires c.in_ok-grounds.grounds.items c.in_ok-grounds.ensures
