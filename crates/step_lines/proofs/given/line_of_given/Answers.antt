use Rattle.step_lines.proofs.GivenLines.{given_serves}
use Rattle.step_lines.proofs.given.line_of_given.Goals as goal

pub returns : goal.returns
returns g c =
    λ fs. given_serves (g.R.Rules.context c.args.rules.now) fs c.is_ready.ensures.tabled c.is_ready.ensures.rooted
    c.args.given.now c.requires c.new.result.items c.new.ensures.items
