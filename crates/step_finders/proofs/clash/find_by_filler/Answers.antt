use Rattle.std.specs.List.{All}
use Rattle.step_finders.specs.Clashing.{NotOverrunOver, NoneOver, IsShown}
use Rattle.step_finders.proofs.Each.{answers_more}
use Rattle.step_finders.proofs.Clashing.{none_over}
use Rattle.step_finders.proofs.clash.find_by_filler.Goals as goal

pub returns : goal.returns
returns g c =
    let w = g.R.Rules.context c.args.search.now.rules.now in
    let fs = g.S.State.facts c.args.search.now.state.now in
    answers_more c.find_by_mosts_over.result
    (All (NotOverrunOver w fs c.args.node c.args.role c.args.filler) c.mosts.result.now)
    (NoneOver w fs c.args.node c.args.role c.args.filler) (IsShown w fs) (IsShown w fs)
    (λ all. none_over w fs c.args.node c.args.role c.args.filler c.mosts.result.now c.mosts.ensures all) (λ k h. h)
    c.find_by_mosts_over.ensures
