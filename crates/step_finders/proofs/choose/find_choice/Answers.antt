use Rattle.step_finders.specs.Choosing.{NoMost, NoUnion, NothingToChoose, IsChoosable}
use Rattle.step_finders.proofs.Each.{answers_more, none_said}
use Rattle.step_finders.proofs.Chosen.{nothing_to_choose}
use Rattle.step_finders.proofs.choose.find_choice.Goals as goal

pub returns-in-None : goal.returns-in-None
returns-in-None g c =
    let w = g.R.Rules.context c.args.search.now.rules.now in
    let fs = g.S.State.facts c.args.search.now.state.now in
    let mosts =
    none_said (NoMost w fs) (IsChoosable w fs) c.in_ok-choosing.field-0 c.in-None.is c.in_ok-choosing.ensures in
    answers_more c.find_union.result (NoUnion w fs) (NothingToChoose w fs) (IsChoosable w fs) (IsChoosable w fs)
    (λ unions. nothing_to_choose w fs unions mosts) (λ k h. h) c.find_union.ensures
