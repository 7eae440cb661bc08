use Rattle.std.proofs.Common.{◌+◌, ◌∙◌, ap}
use Rattle.std.specs.FinSet as set
use Rattle.axiom_sets.specs.Sets.{Limited}
use Rattle.classifier.specs.Rows.{holds}
use Rattle.classification_jobs.proofs.Grouped.{upper_ones}
use Rattle.classification_jobs.proofs.grouping.classes_above.Goals as goal

pub returns : goal.returns
returns c =
    upper_ones c.args.relation.now.count (holds c.args.relation.now) c.args.class c.args.firsts.now c.take.new.self
    c.keep.new.set c.above.result.now c.requires.firsts
    (c.take.ensures.limit ∙ ap (λ (s : Limited). s.limit) c.in_ok-above.ensures) c.keep.ensures.limit
    (c.take.ensures.members ∙ ap (λ (s : Limited). set.remove s.members (c.args.class + 1)) c.in_ok-above.ensures)
    c.above.ensures.members c.in_ok-keep.ensures.members
