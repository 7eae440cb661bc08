use Rattle.std.proofs.Common.{◌≡◌, true, ℕ, sym}
use Rattle.calculus_specs.specs.Shape.{shape_of}
use Rattle.calculus_specs.specs.State.{has}
use Rattle.step_finders.specs.Clashing.{NoneByShape, NoneAt, IsShown}
use Rattle.step_finders.proofs.Each.{answers_more}
use Rattle.step_finders.proofs.Clashing.{none_at}
use Rattle.step_finders.proofs.clash.find_anywhere_at.Goals as goal

pub returns : goal.returns
returns g c =
    let w = g.R.Rules.context c.args.search.now.rules.now in
    let fs = g.S.State.facts c.args.search.now.state.now in
    answers_more c.find_by_label.result
    ((k : ℕ) → has fs c.args.node k ≡ true → NoneByShape w fs c.args.node (shape_of w.table k))
    (NoneAt w fs c.args.node) (IsShown w fs) (IsShown w fs)
    (none_at w fs c.args.node (sym c.if-are_apart.ensures)) (λ k h. h) c.find_by_label.ensures
