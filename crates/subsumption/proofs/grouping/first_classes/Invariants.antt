use Rattle.std.proofs.Common.{◌+◌}
use Rattle.subsumption.specs.Rows.{holds}
use Rattle.subsumption.specs.Groups.{is_first}
use Rattle.subsumption.proofs.Members.{HoldsBelow}
use Rattle.subsumption.proofs.grouping.first_classes.Given as goal

abbrev pub invariant-loop-class : goal.invariant-loop-class
invariant-loop-class l =
    HoldsBelow l.class (is_first l.relation.count (holds l.relation)) (l.relation.count + 2) l.firsts
