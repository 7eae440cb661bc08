use Rattle.std.proofs.Common.{◌≡◌, ℕ, ◌<◌, length}
use Rattle.calculus_specs.specs.Shape.{shape_of}
use Rattle.search_rules.specs.Lists.{list_at}
use Rattle.search_rules.specs.Files.{rows_at_shape}
use Rattle.search_rules.proofs.named_rows.named_lists.Given as goal

abbrev pub invariant-loop-number : goal.invariant-loop-number
invariant-loop-number l = record {
  long : length l.lists.items ≡ l.number;
  each : (c : ℕ) → c < l.number → list_at l.lists.items c ≡ rows_at_shape l.rows.at_names (shape_of l.concepts c);
}
