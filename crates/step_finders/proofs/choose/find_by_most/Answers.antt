use Rattle.step_finders.proofs.Chosen.{may_choose}
use Rattle.step_finders.proofs.choose.find_by_most.Goals as goal

pub returns-in-Some : goal.returns-in-Some
returns-in-Some g c =
    may_choose (g.R.Rules.context c.args.search.now.rules.now) (g.S.State.facts c.args.search.now.state.now) c.args.node
    c.args.concept
    c.requires.is_node c.requires.holds c.args.count c.args.role c.args.filler
    c.in-Some.by c.in-Some.end c.requires.shape c.in-Some.ensures
