use Rattle.std.proofs.Common.{◌≡◌, ℕ, length}
use Rattle.search_rules.specs.Lists.{list_at}
use Rattle.search_rules.specs.Mosts.{AreMostsTo}
use Rattle.search_rules.proofs.mosts.most_lists.Given as goal

abbrev pub invariant-loop-number : goal.invariant-loop-number
invariant-loop-number l = record {
  long : length l.lists.items ≡ length l.concepts;
  are : (c : ℕ) → AreMostsTo l.concepts l.number c (list_at l.lists.items c);
}
