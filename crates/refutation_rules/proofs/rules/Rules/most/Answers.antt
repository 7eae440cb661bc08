use Rattle.std.proofs.Common.{length}
use Rattle.std.proofs.lemmas.Bool.{ltb-true}
use Rattle.calculus_specs.specs.Line.Line.{most_line}
use Rattle.refutation_rules.proofs.Children.{closed_by}
use Rattle.refutation_rules.proofs.TooMany.{most_held, most_none}
use Rattle.refutation_rules.proofs.rules.Rules.most.Goals as goal

pub exceed-requires-clause-listed : goal.exceed-requires-clause-listed
exceed-requires-clause-listed c =
    let held = rw c.in-Max.is at c.in-Some.ensures in
    ltb-true c.in-Max.filler (length c.args.self.now.table) held.parts_below

pub returns-in-Max : goal.returns-in-Max
returns-in-Max c =
    let a = c.args in
    let held = rw c.in-Max.is at c.in-Some.ensures in
    closed_by a.self.now a.branch.now (most_line a.node a.concept a.ends.now) _ c.exceed.result c.closed_if.result
    (most_held a.self.now a.branch.now a.node a.concept c.in-Max.count c.in-Max.role c.in-Max.filler a.ends.now held)
    c.exceed.ensures c.closed_if.ensures

pub returns-in_default-shape : goal.returns-in_default-shape
returns-in_default-shape c = record {
  children =
      most_none c.args.self.now c.args.branch.now c.args.node c.args.concept c.args.ends.now c.in-Some.shape
      c.in-Some.ensures c.in_default-shape.not-Max;
  fit = tt;
}
