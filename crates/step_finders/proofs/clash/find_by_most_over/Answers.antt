use Rattle.step_finders.specs.Clashing.{NotOverrun, NotOverrunOver, IsShown}
use Rattle.step_finders.proofs.Each.{answers_more}
use Rattle.step_finders.proofs.Clashing.{counted}
use Rattle.step_finders.proofs.clash.find_by_most_over.Goals as goal

pub returns : goal.returns
returns g c =
    let w = g.R.Rules.context c.args.search.now.rules.now in
    let fs = g.S.State.facts c.args.search.now.state.now in
    answers_more c.find_by_most.result (NotOverrun w fs c.args.node c.args.filler c.args.concept)
    (NotOverrunOver w fs c.args.node c.args.role c.args.filler c.args.concept) (IsShown w fs) (IsShown w fs)
    (counted w fs c.args.node c.args.role c.args.filler c.args.concept) (λ k h. h) c.find_by_most.ensures
