use Rattle.std.proofs.Common.{◌≡◌, ℕ, ◌≤◌, length}
use Rattle.assertion_box.specs.Places.{list_at}
use Rattle.assertion_box.proofs.place_lists.grow.Given as goal

abbrev pub invariant-loop : goal.invariant-loop
invariant-loop l = record {
  long : l.counter ≤ length l.lists.items;
  same : (a : ℕ) → list_at l.lists.items a ≡ list_at l.fn.lists.items a;
}
