use Rattle.std.proofs.Common.{◌≡◌, ◌++◌, ◌-◌}
use Rattle.lane_sieve.specs.Sets.{passing}
use Rattle.classifier.specs.Rows.{holds}
use Rattle.classifier.specs.Groups.{is_empty}
use Rattle.classification_jobs.proofs.grouping.empty_classes.Given as goal

abbrev pub invariant-loop-class : goal.invariant-loop-class
invariant-loop-class l =
    let p = is_empty l.relation.count (holds l.relation) in
    l.classes.items ++ passing p l.class (l.relation.count - l.class) ≡ passing p 0 l.relation.count
