use Rattle.std.proofs.Common.{◌≡◌, ◌∙◌}
use Rattle.classifier.specs.Rows.{holds}
use Rattle.classification_jobs.specs.TaxonomyLists.{HierarchyLists}
use Rattle.classification_jobs.specs.Taxonomies.{hierarchy_of}
use Rattle.classification_jobs.proofs.grouping.hierarchy.Goals as goal

pub returns : goal.returns
unfolding hierarchy_of
returns c =
    let made : HierarchyLists = record {
      nothing = c.in_ok-nothing.nothing.items;
      thing = c.in_ok-thing.thing.items;
      groups = c.in_ok-groups.groups.items;
    } in
    let same : made ≡ hierarchy_of c.args.relation.now.count (holds c.args.relation.now) =
    λ i. record {
      nothing = c.in_ok-nothing.ensures i;
      thing = c.in_ok-thing.ensures i;
      groups = c.in_ok-groups.ensures i;
    } in
    c.new.ensures ∙ same
