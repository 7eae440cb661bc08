use Rattle.std.proofs.Common.{◌∙◌, sym}
use Rattle.refutation_rules.proofs.Children.{carry_passes, carry_lacks, carry_none}
use Rattle.refutation_rules.proofs.rules.Rules.passed_on.Goals as goal

pub returns-then-carries : goal.returns-then-carries
returns-then-carries c =
    let held = rw c.in-AllOf.is at c.in-Some.ensures in
    carry_passes c.args.self.now c.args.branch.now c.args.node c.args.end c.args.concept c.in-AllOf.upper
    c.in-AllOf.filler held c.args.role (sym c.carries.ensures ∙ c.if-carries.true)

pub returns-else-carries : goal.returns-else-carries
returns-else-carries c =
    let held = rw c.in-AllOf.is at c.in-Some.ensures in
    carry_lacks c.args.self.now c.args.branch.now c.args.node c.args.end c.args.concept c.in-AllOf.upper
    c.in-AllOf.filler held c.args.role (sym c.carries.ensures ∙ c.if-carries.false)

pub returns-in_default-shape : goal.returns-in_default-shape
returns-in_default-shape c =
    carry_none c.args.self.now c.args.branch.now c.args.node c.args.end c.args.role c.args.concept c.in-Some.shape
    c.in-Some.ensures c.in_default-shape.not-AllOf
