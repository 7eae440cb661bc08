use Rattle.std.proofs.Common.{Some}
use Rattle.std.proofs.lemmas.Result.{IfOk-weaker}
use Rattle.calculus_specs.specs.Line.Line.{carry_line}
use Rattle.refutation_rules.proofs.Children.{carried, added}
use Rattle.refutation_rules.proofs.rules.Rules.carry.Goals as goal

pub returns-clause-outcome : goal.returns-clause-outcome
returns-clause-outcome c =
    let a = c.args in
    let n = c.in_ok-number.number in
    let adds =
    carried a.self.now c.put.new.self a.branch.now a.node a.end a.role a.concept c.in-Some.filler n c.put.ensures.same
    c.put.ensures.kept c.requires.listed c.in-Some.ensures c.in_ok-number.ensures.number in
    IfOk-weaker c.one_more.result _ _
    (λ o is. added c.put.new.self a.branch.now (carry_line a.node a.end a.role a.concept) a.end (Some n) o adds is)
    c.one_more.ensures
