use Rattle.refutation_rules.proofs.Children.{clashes}
use Rattle.refutation_rules.proofs.Reading.{branch_stays}
use Rattle.refutation_rules.proofs.rules.Rules.clash.Goals as goal

pub has-requires-clause-branch : goal.has-requires-clause-branch
has-requires-clause-branch c =
    branch_stays c.args.self.now.table c.put.new.self.table c.args.branch.now c.put.ensures.kept c.requires

pub returns-clause-outcome : goal.returns-clause-outcome
returns-clause-outcome c =
    let a = c.args in
    clashes a.self.now c.put.new.self a.branch.now a.node a.concept c.in-Some.class c.in_ok-complement.complement
    c.has.result c.closed_if.result
    c.put.ensures.same c.put.ensures.kept c.requires.listed c.in-Some.ensures c.in_ok-complement.ensures.number
    c.has.ensures c.closed_if.ensures
