use Rattle.refutation_rules.proofs.Children.{or_more, or_none}
use Rattle.refutation_rules.proofs.rules.Rules.or.Goals as goal

pub returns-in_ok-all_had-in-Or : goal.returns-in_ok-all_had-in-Or
returns-in_ok-all_had-in-Or c =
    let held = rw c.in-Or.is at c.in-Some.ensures in
    let p =
    or_more c.args.self.now c.args.branch.now c.args.node c.args.concept c.in-Or.parts.now
    c.in_ok-all_had-in-Or.field-0.items held c.in_ok-all_had-in-Or.ensures in
    record { children = p.0; fit = p.1 }

pub returns-in_default-shape : goal.returns-in_default-shape
returns-in_default-shape c = record {
  children =
      or_none c.args.self.now c.args.branch.now c.args.node c.args.concept c.in-Some.shape c.in-Some.ensures
      c.in_default-shape.not-Or;
  fit = tt;
}
