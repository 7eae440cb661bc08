use Rattle.std.proofs.Common.{◌≡◌, ◌-◌, ◌++◌, drop, length}
use Rattle.refutation_check.specs.Open.{branches_for}
use Rattle.refutation_check.proofs.open_branches.OpenBranches.branch_out.Given as goal

abbrev pub invariant-loop-place : goal.invariant-loop-place
invariant-loop-place l =
    l.self ≡ record l.fn.self {
      waiting = branches_for l.fn.self.branch (drop (length l.facts - l.place) l.facts) ++ l.fn.self.waiting;
    }
