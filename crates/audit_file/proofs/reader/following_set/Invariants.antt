use Rattle.std.proofs.Common.{◌≡◌, ◌+◌, ◌-◌, ◌^◌, ◌≤◌}
use Rattle.std.specs.Prelude.{min}
use Rattle.axiom_sets.specs.Sets.{member_list}
use Rattle.audit_file.specs.Following.{lists_after}
use Rattle.audit_file.proofs.reader.following_set.Given as goal

abbrev pub invariant-loop-number : goal.invariant-loop-number
invariant-loop-number l = record {
  counted : min (l.sets + lists_after l.count l.last l.number-iterator) (2 ^ 32 - 1)
      ≡ min (lists_after l.count 0 (member_list l.set)) (2 ^ 32 - 1);
  short : l.sets ≤ 2 ^ 32 - 1;
}
