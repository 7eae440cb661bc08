use Rattle.std.proofs.Common.{ℕ, ◌∙◌, ap, arith}
use Rattle.lane_sieve.specs.Sets.{passing}
use Rattle.classifier.specs.Rows.{holds}
use Rattle.classifier.specs.Groups.{holds_all}
use Rattle.classifier.proofs.Passing.{listed_more, listed_whole}
use Rattle.classification_jobs.proofs.grouping.full_classes.Goals as goal

pub loop-class-preserved : goal.loop-class-preserved
loop-class-preserved c =
    let rows = c.args.relation.now in
    let p = holds_all rows.count (holds rows) in
    listed_more p c.loop-class.class rows.count c.relates.result c.loop-class.classes.items c.push_if.new.classes.items
    (passing p 0 rows.count) (omega arith)
    (c.relates.ensures ∙ ap (λ (n : ℕ). holds rows n c.loop-class.class) c.class_count-count.ensures.count)
    c.in_ok-push_if.ensures.listed c.loop-class.invariant

pub returns : goal.returns
returns c =
    let rows = c.args.relation.now in
    let p = holds_all rows.count (holds rows) in
    listed_whole p c.loop-class.class rows.count c.loop-class.classes.items (passing p 0 rows.count) (omega arith)
    c.loop-class.invariant
