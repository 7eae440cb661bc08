use Rattle.std.proofs.Common.{ℕ, Option, sym, subst}
use Rattle.std.proofs.lemmas.Result.{IfOk-weaker}
use Rattle.calculus_specs.specs.Rows.{part_at}
use Rattle.calculus_specs.specs.Line.Line.{range_line}
use Rattle.refutation_rules.specs.RefutationContext.{theory, LineAdds}
use Rattle.refutation_rules.proofs.Rows.{range_adds}
use Rattle.refutation_rules.proofs.Children.{added}
use Rattle.refutation_rules.proofs.rules.Rules.range.Goals as goal

pub returns-clause-outcome : goal.returns-clause-outcome
returns-clause-outcome c =
    let a = c.args in
    let k = a.branch.now in
    let g = c.range_row.new.self in
    let line = range_line a.node a.end a.axiom in
    let adds = range_adds g k a.node a.end (part_at (theory g) a.axiom 1) c.in_ok-row.row c.in_ok-row.ensures.row in
    let found = subst (λ (n : Option ℕ). LineAdds g k line a.end n) (sym c.class_of_end-concept.ensures) adds in
    IfOk-weaker c.one_more.result _ _ (λ o is. added g k line a.end c.class_of_end-concept.result o found is)
    c.one_more.ensures
