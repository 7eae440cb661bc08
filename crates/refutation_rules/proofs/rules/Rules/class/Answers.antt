use Rattle.refutation_rules.proofs.Children.{class_held, class_none}
use Rattle.refutation_rules.proofs.rules.Rules.class.Goals as goal

pub returns-in-Name : goal.returns-in-Name
returns-in-Name c =
    let held = rw c.in-Name.is at c.in-Some.ensures in
    class_held c.args.self.now c.args.branch.now c.args.node c.args.concept c.in-Name.class held

pub returns-in_default-shape : goal.returns-in_default-shape
returns-in_default-shape c =
    class_none c.args.self.now c.args.branch.now c.args.node c.args.concept c.in-Some.shape c.in-Some.ensures
    c.in_default-shape.not-Name
