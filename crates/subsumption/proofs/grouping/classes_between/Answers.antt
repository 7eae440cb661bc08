use Rattle.std.proofs.Common.{ℕ, ◌+◌, ◌∙◌, ap}
use Rattle.subsumption.specs.Rows.{holds}
use Rattle.subsumption.specs.Groups.{is_between}
use Rattle.subsumption.proofs.Members.{holds_none}
use Rattle.subsumption.proofs.grouping.classes_between.Goals as goal

pub loop-class-init : goal.loop-class-init
loop-class-init c =
    holds_none (is_between c.args.relation.now.count (holds c.args.relation.now)) (c.args.relation.now.count + 2)
    c.in_ok-between.between (c.in_ok-between.ensures.limit ∙ ap (λ (n : ℕ). n + 2) c.class_count-count.ensures.count)
    c.in_ok-between.ensures.members
