use Rattle.std.proofs.Common.{◌∙◌, sym}
use Rattle.refutation_rules.proofs.Children.{all_adds, all_lacks, all_none}
use Rattle.refutation_rules.proofs.rules.Rules.said_of.Goals as goal

pub returns-then-leads_to : goal.returns-then-leads_to
returns-then-leads_to c =
    let held = rw c.in-AllOf.is at c.in-Some.ensures in
    all_adds c.args.self.now c.args.branch.now c.args.node c.args.end c.args.concept c.in-AllOf.role c.in-AllOf.filler
    held (sym c.leads_to.ensures ∙ c.if-leads_to.true)

pub returns-else-leads_to : goal.returns-else-leads_to
returns-else-leads_to c =
    let held = rw c.in-AllOf.is at c.in-Some.ensures in
    all_lacks c.args.self.now c.args.branch.now c.args.node c.args.end c.args.concept c.in-AllOf.role c.in-AllOf.filler
    held (sym c.leads_to.ensures ∙ c.if-leads_to.false)

pub returns-in_default-shape : goal.returns-in_default-shape
returns-in_default-shape c =
    all_none c.args.self.now c.args.branch.now c.args.node c.args.end c.args.concept c.in-Some.shape c.in-Some.ensures
    c.in_default-shape.not-AllOf
