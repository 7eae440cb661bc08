use Rattle.std.proofs.Common.{◌∙◌}
use Rattle.std.proofs.lemmas.Result.{IfOk-weaker}
use Rattle.classifier.specs.Rows.{holds}
use Rattle.classifier.proofs.Grouped.{lowest_by}
use Rattle.classification_jobs.specs.Taxonomies.{is_above}
use Rattle.classification_jobs.proofs.grouping.parents.Goals as goal

pub returns : goal.returns
returns c =
    let rows = c.args.relation.now in
    IfOk-weaker c.lowest.result _ _
    (λ ps h. h
    ∙ lowest_by rows.count (holds rows) (is_above rows.count (holds rows) c.args.class) c.in_ok-above.above
    c.in_ok-above.ensures)
    c.lowest.ensures
