use Rattle.step_lines.proofs.Branching.{pair_serves}
use Rattle.step_lines.proofs.choice.line_of_pair.Goals as goal

pub returns : goal.returns
returns g c =
    pair_serves (g.R.Rules.context c.args.search.now.rules.now) (g.S.State.facts c.args.search.now.state.now)
    c.is_ready.ensures.tabled
    c.args.first c.args.second c.args.from c.args.first_role c.args.second_role c.args.concept c.requires
    c.in_ok-grounds.grounds.items c.in_ok-grounds.ensures
