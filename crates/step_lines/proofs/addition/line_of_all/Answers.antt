use Rattle.step_lines.proofs.ConceptLines.{all_serves}
use Rattle.step_lines.proofs.addition.line_of_all.Goals as goal

pub returns : goal.returns
returns g c =
    all_serves (g.R.Rules.context c.args.search.now.rules.now) (g.S.State.facts c.args.search.now.state.now)
    c.is_ready.ensures.tabled
    c.args.from c.args.role c.args.concept c.args.node c.args.filler c.requires c.in_ok-grounds.grounds.items
    c.in_ok-grounds.ensures
