use Rattle.std.proofs.Common.{◌≡◌, ◌-◌, drop}
use Rattle.refutation_truth.specs.TheoryRows.{is_ascending}
use Rattle.row_cache.proofs.cached_row.is_ascending.Given as goal

abbrev pub invariant-loop-index : goal.invariant-loop-index
invariant-loop-index l = is_ascending (drop (l.index - 1) l.positions) ≡ is_ascending l.positions
