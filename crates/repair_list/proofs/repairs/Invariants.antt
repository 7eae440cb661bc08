use Rattle.std.proofs.Common.{take}
use Rattle.pinpointing_specs.specs.Order.{IsAscending}
use Rattle.repair_list.specs.Alone.{AreRepairs}
use Rattle.repair_list.proofs.repairs.Given as goal

abbrev pub invariant-loop-place : goal.invariant-loop-place
invariant-loop-place l = record {
  order : IsAscending l.list.items;
  members : AreRepairs l.found.justifications.items (take l.place l.found.leaves.items) l.list.items;
}
