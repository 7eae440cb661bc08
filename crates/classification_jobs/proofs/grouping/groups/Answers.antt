use Rattle.std.proofs.Common.{◌∙◌}
use Rattle.classifier.specs.Rows.{holds}
use Rattle.classifier.specs.Groups.{is_first}
use Rattle.classifier.proofs.Members.{class_list-holds}
use Rattle.classification_jobs.proofs.grouping.groups.Goals as goal

pub groups_by-requires-clause-classes : goal.groups_by-requires-clause-classes
groups_by-requires-clause-classes c =
    let rows = c.args.relation.now in
    c.deref.ensures.value ∙ c.in_ok-classes.ensures
    ∙ class_list-holds rows.count (is_first rows.count (holds rows)) c.in_ok-firsts.firsts c.in_ok-firsts.ensures
