use Rattle.std.proofs.Common.{◌≡◌, ◌+◌, ◌-◌, false}
use Rattle.std.specs.List.{range_with_len}
use Rattle.refutation_check.specs.Open.{knowing_nodes}
use Rattle.refutation_check.proofs.Ranges.{are_new}
use Rattle.refutation_check.proofs.open_branches.OpenBranches.know_all.Given as goal

abbrev pub invariant-loop-place : goal.invariant-loop-place
invariant-loop-place l = record {
  all : knowing_nodes l.self (range_with_len (l.first + l.place) (l.count - l.place))
      ≡ knowing_nodes l.fn.self (range_with_len l.first l.count);
  new : are_new l.self.branch.nodes (l.first + l.place) (l.count - l.place) ≡ false;
}
