use Rattle.step_lines.proofs.Many.{too_many}
use Rattle.step_lines.proofs.most.many_ends.Goals as goal

pub returns : goal.returns
returns g c =
    too_many (g.R.Rules.context c.args.search.now.rules.now) (g.S.State.facts c.args.search.now.state.now) c.args.node
    c.args.concept
    c.args.count c.args.role c.args.filler c.requires c.in_ok-ends.ends.items c.in_ok-ends.ensures
