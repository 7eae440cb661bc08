use Rattle.std.proofs.Common.{◌≡◌, ◌-◌, ◌++◌, length, take, drop}
use Rattle.completion_tree.specs.Trail.{grounded}
use Rattle.completion_tree.proofs.tree.follow.Given as goal

abbrev pub invariant-loop-place : goal.invariant-loop-place
invariant-loop-place g l = record {
  put : l.trail ≡ l.fn.trail ++ grounded l.by (take (l.place - l.from) (drop l.from l.facts.facts));
  begins : take (length l.fn.trail) l.trail ≡ l.fn.trail;
}
