use Rattle.std.proofs.lemmas.Result.{IfOk-weaker}
use Rattle.refutation_rules.proofs.Children.{chosen}
use Rattle.refutation_rules.proofs.rules.Rules.choose.Goals as goal

pub returns-clause-outcome : goal.returns-clause-outcome
returns-clause-outcome c =
    let a = c.args in
    IfOk-weaker c.either.result _ _
    (λ o are. chosen a.self.now c.negated.new.self a.branch.now a.node a.concept c.in-Some.number
    c.in_ok-complement.complement o c.negated.ensures.same c.negated.ensures.kept c.requires.listed c.in-Some.ensures
    c.in_ok-complement.ensures.number are)
    c.either.ensures
