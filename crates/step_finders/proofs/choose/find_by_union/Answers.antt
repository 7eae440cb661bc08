use Rattle.std.proofs.Common.{sym}
use Rattle.step_finders.proofs.Chosen.{may_or}
use Rattle.step_finders.proofs.choose.find_by_union.Goals as goal

pub returns-else-has_any : goal.returns-else-has_any
returns-else-has_any g c =
    may_or (g.R.Rules.context c.args.search.now.rules.now) (g.S.State.facts c.args.search.now.state.now) c.args.node
    c.args.concept
    c.requires.is_node c.requires.holds c.args.parts.now c.is_ready.ensures.tabled c.requires.shape
    (sym c.if-has_any.ensures)
