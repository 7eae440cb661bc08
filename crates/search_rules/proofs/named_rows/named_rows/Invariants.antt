use Rattle.std.proofs.Common.{◌≡◌, map, take}
use Rattle.search_rules.specs.Files.{named_of}
use Rattle.search_rules.proofs.named_rows.named_rows.Given as goal

abbrev pub invariant-loop-row : goal.invariant-loop-row
invariant-loop-row l = l.named ≡ map named_of (take l.row-index l.rows)
