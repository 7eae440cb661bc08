use Rattle.std.proofs.Common.{refl, ◌∙◌}
use Rattle.calculus_specs.specs.Line.Line.{differ_line}
use Rattle.refutation_rules.proofs.Children.{closed_by}
use Rattle.refutation_rules.proofs.Individuals.{differ_read}
use Rattle.refutation_rules.proofs.rules.Rules.differ.Goals as goal

pub returns : goal.returns
returns c =
    let a = c.args in
    let f = a.self.now in
    let k = a.branch.now in
    closed_by f k (differ_line a.first a.second) _ c.are_differing.result c.closed_if.result refl
    (c.are_differing.ensures ∙ differ_read f.table k a.first a.second) c.closed_if.ensures
