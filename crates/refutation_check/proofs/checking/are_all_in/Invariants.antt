use Rattle.std.proofs.Common.{◌≡◌, ◌&&◌}
use Rattle.std.specs.List.{list_all}
use Rattle.std.specs.FinSet as sets
use Rattle.axiom_sets.specs.Sets.{member_list}
use Rattle.refutation_check.proofs.checking.are_all_in.Given as goal

abbrev pub invariant-loop-number : goal.invariant-loop-number
invariant-loop-number l =
    (l.all && list_all (sets.contains l.set.members) l.number-iterator)
    ≡ list_all (sets.contains l.set.members) (member_list l.named)
