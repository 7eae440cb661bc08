use Rattle.std.proofs.Common.{◌≡◌, ◌++◌, ◌&&◌, drop, true}
use Rattle.std.specs.Prelude.{nat_lt}
use Rattle.std.specs.List.{filter, list_all}
use Rattle.lane_sieve.specs.Sets.{passing}
use Rattle.subsumption.specs.Rows.{holds}
use Rattle.subsumption.specs.ClassSets.{has_class, HoldsClasses}
use Rattle.subsumption.specs.Groups.{holds_no_other, is_lowest}
use Rattle.subsumption.proofs.grouping.lowest.Given as goal

abbrev pub invariant-loop-candidate : goal.invariant-loop-candidate
invariant-loop-candidate l = record {
  listed : l.lowest.items
      ++ filter (holds_no_other l.relation.count (holds l.relation) (has_class l.set))
      (drop l.candidate-index l.candidate-items)
      ≡ passing (is_lowest l.relation.count (holds l.relation) (has_class l.set)) 0 l.relation.count;
  kept : HoldsClasses l.relation.count (has_class l.set) l.left;
  pass : list_all (λ x. nat_lt x l.relation.count && has_class l.set x) (drop l.candidate-index l.candidate-items)
      ≡ true;
}
