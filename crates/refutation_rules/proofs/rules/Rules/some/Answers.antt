use Rattle.refutation_rules.proofs.Nodes.{some_made, some_none}
use Rattle.refutation_rules.proofs.rules.Rules.some.Goals as goal

pub returns-in-SomeOf : goal.returns-in-SomeOf
returns-in-SomeOf c =
    let a = c.args in
    let held = rw c.in-SomeOf.is at c.in-Some.ensures in
    some_made a.self.now a.branch.now a.node a.first a.concept c.in-SomeOf.role c.in-SomeOf.filler c.made.result held
    c.ranges.first.fits c.made.ensures

pub returns-in_default-shape : goal.returns-in_default-shape
returns-in_default-shape c = record {
  children =
      some_none c.args.self.now c.args.branch.now c.args.node c.args.first c.args.concept c.in-Some.shape
      c.in-Some.ensures c.in_default-shape.not-SomeOf;
  fit = tt;
}
