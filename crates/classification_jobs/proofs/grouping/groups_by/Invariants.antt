use Rattle.std.proofs.Common.{◌≡◌, ◌++◌, drop, map, true}
use Rattle.lane_sieve.specs.Sets.{passing}
use Rattle.classifier.specs.Rows.{holds}
use Rattle.classifier.specs.ClassNames.{are_listed}
use Rattle.classifier.specs.Groups.{is_first}
use Rattle.classification_jobs.specs.Taxonomies.{group_of}
use Rattle.classification_jobs.proofs.grouping.groups_by.Given as goal

abbrev pub invariant-loop-class : goal.invariant-loop-class
invariant-loop-class l = record {
  made : l.groups.items ++ map (group_of l.relation.count (holds l.relation)) (drop l.class-index l.classes)
      ≡ map (group_of l.relation.count (holds l.relation))
      (passing (is_first l.relation.count (holds l.relation)) 0 l.relation.count);
  listed : are_listed l.relation.count (drop l.class-index l.classes) ≡ true;
}
