use Rattle.std.proofs.Common.{◌∙◌}
use Rattle.classifier.specs.Rows.{holds}
use Rattle.classification_jobs.specs.TaxonomyLists.{GroupLists}
use Rattle.classification_jobs.proofs.Grouped.{group_is}
use Rattle.classification_jobs.proofs.grouping.group.Goals as goal

pub returns : goal.returns
returns c =
    let made : GroupLists =
    record { classes = c.in_ok-classes.classes.items; parents = c.in_ok-parents.parents.items } in
    c.new.ensures
    ∙ group_is c.args.relation.now.count (holds c.args.relation.now) c.args.class made c.in_ok-equal.equal
    c.in_ok-equal.ensures c.in_ok-classes.ensures c.in_ok-parents.ensures
