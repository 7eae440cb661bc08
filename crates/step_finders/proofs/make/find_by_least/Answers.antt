use Rattle.std.proofs.Common.{Bool, subst}
use Rattle.step_finders.specs.Making.{AnswersRun}
use Rattle.step_finders.proofs.Making.{makes_least}
use Rattle.step_finders.proofs.make.find_by_least.Goals as goal

pub returns : goal.returns
returns g c =
    makes_least (g.R.Rules.context c.args.search.now.rules.now) (g.S.State.facts c.args.search.now.state.now)
    c.args.node c.args.concept
    c.requires.is_open c.requires.holds c.args.count c.args.role c.args.filler c.requires.shape
    (subst (λ (b : Bool). AnswersRun (g.R.Rules.context c.args.search.now.rules.now)
    (g.S.State.facts c.args.search.now.state.now) c.args.node
    c.args.count c.args.role c.args.filler b)
    c.if-branch.false
    c.in_ok-has_run.ensures)
