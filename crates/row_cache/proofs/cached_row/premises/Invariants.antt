use Rattle.std.proofs.Common.{◌≡◌, map, take}
use Rattle.row_cache.specs.Rows.{conjunct_number_at}
use Rattle.row_cache.proofs.cached_row.premises.Given as goal

abbrev pub invariant-loop-position : goal.invariant-loop-position
invariant-loop-position l = l.numbers ≡ map (conjunct_number_at l.conjuncts) (take l.position-index l.positions)
