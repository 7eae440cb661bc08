use Rattle.refutation_rules.proofs.Nodes.{least_made, least_none}
use Rattle.refutation_rules.proofs.rules.Rules.least.Goals as goal

pub returns-in-Min : goal.returns-in-Min
returns-in-Min c =
    let a = c.args in
    let held = rw c.in-Min.is at c.in-Some.ensures in
    least_made a.self.now a.branch.now a.node a.first a.concept c.in-Min.count c.in-Min.role c.in-Min.filler
    c.made.result held c.made.ensures

pub returns-in_default-shape : goal.returns-in_default-shape
returns-in_default-shape c = record {
  children =
      least_none c.args.self.now c.args.branch.now c.args.node c.args.first c.args.concept c.in-Some.shape
      c.in-Some.ensures c.in_default-shape.not-Min;
  fit = tt;
}
