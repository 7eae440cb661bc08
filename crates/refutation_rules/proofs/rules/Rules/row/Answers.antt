use Rattle.std.proofs.Common.{ℕ, Option, sym, subst}
use Rattle.std.proofs.lemmas.Result.{IfOk-weaker}
use Rattle.calculus_specs.specs.Rows.{part_at}
use Rattle.calculus_specs.specs.Line.Line.{row_line}
use Rattle.refutation_rules.specs.RefutationContext.{theory, LineAdds}
use Rattle.refutation_rules.proofs.Rows.{row_adds}
use Rattle.refutation_rules.proofs.Children.{added}
use Rattle.refutation_rules.proofs.Reading.{branch_stays}
use Rattle.refutation_rules.proofs.rules.Rules.row.Goals as goal

pub returns-clause-outcome : goal.returns-clause-outcome
returns-clause-outcome c =
    let a = c.args in
    let k = a.branch.now in
    let g = c.inclusion_row.new.self in
    let line = row_line a.node a.axiom a.part a.positions.now in
    let listed = (branch_stays a.self.now.table g.table k c.inclusion_row.ensures.kept c.requires).listed in
    let adds =
    row_adds g.table c.inclusion_row.ensures.table k listed a.node (part_at (theory g) a.axiom a.part) a.positions.now
    c.in_ok-row.row c.in_ok-row.ensures.row in
    let found = subst (λ (n : Option ℕ). LineAdds g k line a.node n) (sym c.used-concept.ensures) adds in
    IfOk-weaker c.one_more.result _ _ (λ o is. added g k line a.node c.used-concept.result o found is)
    c.one_more.ensures
