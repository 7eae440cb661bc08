use Rattle.std.proofs.Common.{◌++◌, ◌∙◌, ap, map}
use Rattle.classifier.specs.Rows.{holds}
use Rattle.classifier.specs.ClassNames.{are_listed}
use Rattle.classifier.specs.Groups.{is_first}
use Rattle.classification_jobs.specs.Taxonomies.{group_of}
use Rattle.classifier.proofs.Passing.{below-passing}
use Rattle.classification_jobs.proofs.grouping.groups_by.Goals as goal

pub loop-class-init : goal.loop-class-init
loop-class-init c =
    let rows = c.args.relation.now in
    let firsts = is_first rows.count (holds rows) in
    record {
      made = λ i. c.new-groups.ensures.items i ++ map (group_of rows.count (holds rows)) (c.requires.classes i);
      listed = ap (are_listed rows.count) c.requires.classes ∙ below-passing firsts rows.count;
    }
