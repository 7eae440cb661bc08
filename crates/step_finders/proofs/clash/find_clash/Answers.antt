use Rattle.calculus_specs.specs.Shape.{shape_of}
use Rattle.step_finders.specs.Clashing.{NoneByShape, NoneAbove, NoClashBy, IsShown}
use Rattle.step_finders.proofs.Each.{answers_more, none_said}
use Rattle.step_finders.proofs.Clashing.{no_clash}
use Rattle.step_finders.proofs.clash.find_clash.Goals as goal

pub returns-in-None : goal.returns-in-None
returns-in-None g c =
    let w = (g.R.Rules.context c.args.search.now.rules.now) in
    let fs = (g.S.State.facts c.args.search.now.state.now) in
    let at =
    none_said (NoneByShape w fs c.args.node (shape_of w.table c.args.concept)) (IsShown w fs) c.find_at_node.result
    c.in-None.is c.find_at_node.ensures in
    answers_more c.find_above.result (NoneAbove w fs c.args.node c.args.concept)
    (NoClashBy w fs c.args.node c.args.concept) (IsShown w fs) (IsShown w fs)
    (λ over. no_clash w fs c.args.node c.args.concept c.requires.above at over) (λ k h. h) c.find_above.ensures
