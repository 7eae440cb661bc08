use Rattle.step_finders.proofs.Chosen.{may_pair, first_is_next, second_is_next}
use Rattle.step_finders.proofs.choose.pair_of.Goals as goal

pub returns-in-Some-role_to : goal.returns-in-Some-role_to
returns-in-Some-role_to g c =
    may_pair (g.R.Rules.context c.args.search.now.rules.now) (g.S.State.facts c.args.search.now.state.now) c.args.node
    c.args.concept
    c.requires.is_node c.requires.holds c.args.count c.args.role c.args.filler c.args.first c.args.second
    c.in-Some.first_role c.in-Some-role_to.second_role c.requires.shape c.requires.pair c.in-Some.ensures
    c.in-Some-role_to.ensures

pub returns-in-None-role_to : goal.returns-in-None-role_to
returns-in-None-role_to g c =
    let h =
    second_is_next (g.R.Rules.context c.args.search.now.rules.now) (g.S.State.facts c.args.search.now.state.now)
    c.args.node c.args.concept
    c.requires.is_node c.requires.holds c.args.count c.args.role c.args.filler c.args.first c.args.second
    c.requires.pair in
    (let k = c.in-None-role_to.ensures in cc)

pub returns-in-None : goal.returns-in-None
returns-in-None g c =
    let h =
    first_is_next (g.R.Rules.context c.args.search.now.rules.now) (g.S.State.facts c.args.search.now.state.now)
    c.args.node c.args.concept
    c.requires.is_node c.requires.holds c.args.count c.args.role c.args.filler c.args.first c.args.second
    c.requires.pair in
    (let k = c.in-None.ensures in cc)
