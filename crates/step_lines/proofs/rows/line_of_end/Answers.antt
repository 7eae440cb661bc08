use Rattle.step_lines.proofs.RowLines.{end_serves}
use Rattle.step_lines.proofs.rows.line_of_end.Goals as goal

pub returns : goal.returns
returns g c =
    end_serves (g.R.Rules.context c.args.search.now.rules.now) (g.S.State.facts c.args.search.now.state.now)
    c.is_ready.ensures.tabled
    c.is_ready.ensures.chosen c.is_ready.ensures.ranged c.args.from c.args.role c.args.row c.args.node c.args.given
    c.requires c.in_ok-grounds.grounds.items c.in_ok-grounds.ensures
