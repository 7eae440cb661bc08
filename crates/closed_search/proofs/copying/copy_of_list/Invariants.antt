use Rattle.std.proofs.Common.{◌≡◌, ◌++◌, drop}
use Rattle.closed_search.proofs.copying.copy_of_list.Given as goal

-- what is copied, and what is left to be
abbrev pub invariant-loop-number : goal.invariant-loop-number
invariant-loop-number l = l.copy ++ drop l.number-index l.number-items ≡ l.number-items
