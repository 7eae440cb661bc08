use Rattle.std.proofs.Common.{sym, refl, true, false}
use Rattle.step_finders.proofs.Clashing.{most_found, most_none}
use Rattle.step_finders.proofs.clash.find_by_most.Goals as goal

pub returns-then-is_overrun : goal.returns-then-is_overrun
returns-then-is_overrun g c =
    most_found (g.R.Rules.context c.args.search.now.rules.now) (g.S.State.facts c.args.search.now.state.now) c.args.node
    c.args.concept
    c.in-Max.count c.in-Max.role c.in-Max.field-2 c.args.filler c.in-Max.ensures
    c.requires.shape true refl c.requires.is_node (sym c.if-not-has.ensures) c.if-is_overrun.ensures

pub returns-else-is_overrun : goal.returns-else-is_overrun
returns-else-is_overrun g c =
    most_none (g.R.Rules.context c.args.search.now.rules.now) (g.S.State.facts c.args.search.now.state.now) c.args.node
    c.args.concept
    c.in-Max.count c.in-Max.role c.in-Max.field-2 c.args.filler c.in-Max.ensures
    c.requires.shape false refl c.if-is_overrun.ensures
