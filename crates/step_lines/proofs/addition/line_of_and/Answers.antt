use Rattle.step_lines.proofs.ConceptLines.{and_serves}
use Rattle.step_lines.proofs.addition.line_of_and.Goals as goal

pub returns : goal.returns
returns g c =
    and_serves (g.R.Rules.context c.args.search.now.rules.now) (g.S.State.facts c.args.search.now.state.now)
    c.is_ready.ensures.tabled
    c.args.concept c.args.node c.args.part c.requires c.in_ok-grounds.grounds.items c.in_ok-grounds.ensures
