use Rattle.std.proofs.Common.{◌≡◌, map, take}
use Rattle.search_rules.specs.Files.{plain_of}
use Rattle.search_rules.proofs.edge_tables.plain_rows.Given as goal

abbrev pub invariant-loop-row : goal.invariant-loop-row
invariant-loop-row l = l.plain ≡ map plain_of (take l.row-index l.rows)
