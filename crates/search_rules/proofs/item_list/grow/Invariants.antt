use Rattle.std.proofs.Common.{◌≡◌, ℕ, ◌≤◌, length}
use Rattle.search_rules.specs.Lists.{list_at}
use Rattle.search_rules.proofs.item_list.grow.Given as goal

abbrev pub invariant-loop : goal.invariant-loop
invariant-loop g l = record {
  long : l.counter ≤ length l.lists.items;
  same : (k : ℕ) → list_at l.lists.items k ≡ list_at l.fn.lists.items k;
}
