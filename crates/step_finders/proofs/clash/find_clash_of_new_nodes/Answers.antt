use Rattle.step_finders.specs.Clashing.{NoneOver, NoClashByNew, IsShown}
use Rattle.step_finders.proofs.Each.{answers_more}
use Rattle.step_finders.proofs.Clashing.{no_clash_by_new}
use Rattle.step_finders.proofs.clash.find_clash_of_new_nodes.Goals as goal

pub returns : goal.returns
returns g c =
    let w = g.R.Rules.context c.args.search.now.rules.now in
    let fs = g.S.State.facts c.args.search.now.state.now in
    answers_more c.find_by_fillers.result
    (NoneOver w fs c.args.parent c.args.role 0 × NoneOver w fs c.args.parent c.args.role c.args.filler)
    (NoClashByNew w fs c.args.parent c.args.role c.args.filler) (IsShown w fs) (IsShown w fs)
    (λ none. no_clash_by_new w fs c.args.parent c.args.role c.args.filler
    (λ sh. (let k = c.if-is_bottom.ensures.1 sh in cc)) none)
    (λ k h. h) c.find_by_fillers.ensures
