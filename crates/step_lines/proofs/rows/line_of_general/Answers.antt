use Rattle.std.proofs.Common.{ℕ, List, sym, subst}
use Rattle.calculus_specs.specs.Line.Line.{row_line}
use Rattle.step_lines.specs.Kinds.{ServesAddition}
use Rattle.step_lines.proofs.RowLines.{general_serves}
use Rattle.step_lines.proofs.rows.line_of_general.Goals as goal

pub returns : goal.returns
returns g c =
    subst (λ (ps : List ℕ). ServesAddition (g.R.Rules.context c.args.search.now.rules.now)
    (g.S.State.facts c.args.search.now.state.now)
    c.args.node c.args.given (row_line c.args.node c.args.row.«axiom» c.args.row.part ps) c.in_ok-grounds.grounds.items)
    (sym c.new.ensures)
    (general_serves (g.R.Rules.context c.args.search.now.rules.now) (g.S.State.facts c.args.search.now.state.now)
    c.is_ready.ensures.tabled
    c.is_ready.ensures.chosen c.args.row c.args.node c.args.given c.requires.by_row c.in_ok-grounds.grounds.items
    c.in_ok-grounds.ensures)
