use Rattle.std.proofs.Common.{◌≡◌, ℕ, ◌<◌, length}
use Rattle.ontology_limits.specs.Paths.{is_below}
use Rattle.search_rules.specs.Lists.{list_at}
use Rattle.search_rules.specs.Files.{waits_for, rows_among}
use Rattle.search_rules.proofs.edge_tables.lists_of.Given as goal

abbrev pub invariant-loop-role : goal.invariant-loop-role
invariant-loop-role l = record {
  long : length l.lists.items ≡ l.role;
  each : (r : ℕ) → r < l.role
      → list_at l.lists.items r ≡ rows_among (is_below l.roles) (waits_for l.side) l.rows.at_roles l.used r;
}
