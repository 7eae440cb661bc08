use Rattle.std.proofs.Common.{◌+◌}
use Rattle.subsumption.specs.Rows.{holds}
use Rattle.subsumption.specs.Groups.{is_between}
use Rattle.subsumption.proofs.Members.{HoldsBelow}
use Rattle.subsumption.proofs.grouping.classes_between.Given as goal

abbrev pub invariant-loop-class : goal.invariant-loop-class
invariant-loop-class l =
    HoldsBelow l.class (is_between l.relation.count (holds l.relation)) (l.relation.count + 2) l.between
