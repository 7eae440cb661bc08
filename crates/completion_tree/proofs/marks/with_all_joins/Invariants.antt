use Rattle.std.proofs.Common.{◌≡◌, take, true}
use Rattle.std.specs.Prelude.{filter}
use Rattle.std.specs.FinSet as set
use Rattle.calculus_specs.specs.Joins.{rep}
use Rattle.completion_tree.specs.Trail.{is_same}
use Rattle.completion_tree.specs.Marks.{is_join, AreWithin}
use Rattle.completion_tree.proofs.marks.with_all_joins.Given as goal

abbrev pub invariant-loop-place : goal.invariant-loop-place
invariant-loop-place g l = record {
  more : set.is_subset l.fn.ground l.used ≡ true;
  joins : AreWithin (is_join (rep l.facts.facts) l.first l.second) l.used (take l.place-index (filter is_same l.trail));
}
