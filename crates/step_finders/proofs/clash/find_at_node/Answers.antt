use Rattle.std.proofs.Common.{sym, subst}
use Rattle.step_finders.specs.Clashing.{NoneByShape}
use Rattle.step_finders.proofs.Opposite.{both_by_name, both_by_not, none_by_name, none_by_not}
use Rattle.step_finders.proofs.clash.find_at_node.Goals as goal

pub returns-in-Some : goal.returns-in-Some
returns-in-Some g c =
    both_by_name (g.R.Rules.context c.args.search.now.rules.now) c.is_ready.ensures.tabled
    (g.S.State.facts c.args.search.now.state.now)
    c.args.node c.args.concept c.in-Name.field-0 c.in-Some.complement c.requires.is_node c.requires.holds
    (sym c.in-Name.ensures) c.in-Some.ensures.0 c.in-Some.ensures.1

pub returns-in-None : goal.returns-in-None
returns-in-None g c =
    subst (NoneByShape (g.R.Rules.context c.args.search.now.rules.now) (g.S.State.facts c.args.search.now.state.now)
    c.args.node)
    c.in-Name.ensures
    (none_by_name (g.R.Rules.context c.args.search.now.rules.now) c.is_ready.ensures.tabled
    (g.S.State.facts c.args.search.now.state.now)
    c.args.node c.args.concept c.in-Name.field-0 (sym c.in-Name.ensures) c.in-None.ensures)

pub returns-in-Some-find_opposite : goal.returns-in-Some-find_opposite
returns-in-Some-find_opposite g c =
    both_by_not (g.R.Rules.context c.args.search.now.rules.now) c.is_ready.ensures.tabled
    (g.S.State.facts c.args.search.now.state.now)
    c.args.node c.args.concept c.in-NotName.field-0 c.in-Some-find_opposite.class c.requires.is_node c.requires.holds
    (sym c.in-NotName.ensures)
    c.in-Some-find_opposite.ensures.0 c.in-Some-find_opposite.ensures.1

pub returns-in-None-find_opposite : goal.returns-in-None-find_opposite
returns-in-None-find_opposite g c =
    subst (NoneByShape (g.R.Rules.context c.args.search.now.rules.now) (g.S.State.facts c.args.search.now.state.now)
    c.args.node)
    c.in-NotName.ensures
    (none_by_not (g.R.Rules.context c.args.search.now.rules.now) c.is_ready.ensures.tabled
    (g.S.State.facts c.args.search.now.state.now)
    c.args.node c.args.concept c.in-NotName.field-0 (sym c.in-NotName.ensures) c.in-None-find_opposite.ensures)
