use Rattle.step_finders.specs.Clashing.{NoneOver, IsShown}
use Rattle.step_finders.proofs.Each.{answers_more, none_said}
use Rattle.step_finders.proofs.clash.find_by_fillers.Goals as goal

pub returns-in-None : goal.returns-in-None
returns-in-None g c =
    let w = g.R.Rules.context c.args.search.now.rules.now in
    let fs = g.S.State.facts c.args.search.now.state.now in
    let tops =
    none_said (NoneOver w fs c.args.node c.args.role 0) (IsShown w fs) c.find_by_filler.result c.in-None.is
    c.find_by_filler.ensures in
    answers_more c.find_by_filler-in-None.result (NoneOver w fs c.args.node c.args.role c.args.filler)
    (NoneOver w fs c.args.node c.args.role 0 × NoneOver w fs c.args.node c.args.role c.args.filler) (IsShown w fs)
    (IsShown w fs)
    (λ fillers. (tops, fillers)) (λ k h. h) c.find_by_filler-in-None.ensures
