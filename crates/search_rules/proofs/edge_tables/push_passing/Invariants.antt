use Rattle.std.proofs.Common.{◌≡◌, ◌++◌, take}
use Rattle.search_rules.specs.Files.{waits_for, passing_rows}
use Rattle.search_rules.proofs.edge_tables.push_passing.Given as goal

abbrev pub invariant-loop-row : goal.invariant-loop-row
invariant-loop-row l = l.list ≡ l.fn.list ++ passing_rows (waits_for l.side) (take l.row-index l.rows)
