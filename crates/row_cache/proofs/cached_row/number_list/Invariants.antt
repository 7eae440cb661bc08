use Rattle.std.proofs.Common.{◌≡◌, take}
use Rattle.row_cache.proofs.cached_row.number_list.Given as goal

abbrev pub invariant-loop-number : goal.invariant-loop-number
invariant-loop-number l = l.list ≡ take l.number-index l.numbers
