use Rattle.refutation_rules.proofs.Children.{and_more, and_none}
use Rattle.refutation_rules.proofs.rules.Rules.and.Goals as goal

pub returns-in_ok-all_had-in-And : goal.returns-in_ok-all_had-in-And
returns-in_ok-all_had-in-And c =
    let held = rw c.in-And.is at c.in-Some.ensures in
    let p =
    and_more c.args.self.now c.args.branch.now c.args.node c.args.concept c.in-And.parts.now
    c.in_ok-all_had-in-And.field-0.items held c.in_ok-all_had-in-And.ensures in
    record { children = p.0; fit = p.1 }

pub returns-in_default-shape : goal.returns-in_default-shape
returns-in_default-shape c = record {
  children =
      and_none c.args.self.now c.args.branch.now c.args.node c.args.concept c.in-Some.shape c.in-Some.ensures
      c.in_default-shape.not-And;
  fit = tt;
}
