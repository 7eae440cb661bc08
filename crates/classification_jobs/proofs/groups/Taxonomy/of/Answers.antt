use Rattle.std.proofs.Common.{◌∙◌, ap}
use Rattle.classifier.specs.Rows.{holds}
use Rattle.classification_jobs.specs.Listing.{hierarchy_is_listed}
use Rattle.classification_jobs.proofs.Grouped.{hierarchy_listed}
use Rattle.classification_jobs.proofs.groups.Taxonomy.of.Goals as goal

pub returns-clause-listed : goal.returns-clause-listed
returns-clause-listed c =
    ap (hierarchy_is_listed c.args.relation.now.count) c.in_ok-hierarchy.ensures
    ∙ hierarchy_listed c.args.relation.now.count (holds c.args.relation.now)
