use Rattle.std.proofs.Common.{◌≡◌, ℕ, length, []}
use Rattle.search_rules.specs.Lists.{list_at}
use Rattle.search_rules.proofs.mosts.empty_lists.Given as goal

abbrev pub invariant-loop : goal.invariant-loop
invariant-loop l = record {
  long : length l.lists.items ≡ l.counter;
  empty : (c : ℕ) → list_at l.lists.items c ≡ [];
}
