use Rattle.step_finders.proofs.Adding.{part_adds}
use Rattle.step_finders.proofs.parts.find_by_and.Goals as goal

pub returns-in-Some : goal.returns-in-Some
returns-in-Some g c =
    part_adds (g.R.Rules.context c.args.search.now.rules.now) (g.R.Rules.files c.args.search.now.rules.now)
    (g.S.State.facts c.args.search.now.state.now)
    c.args.node c.args.concept c.args.parts.now c.in-Some.part c.requires.is_node c.requires.holds
    c.requires.shape c.in-Some.ensures.0 c.in-Some.ensures.1
