use Rattle.std.proofs.Common.{◌≡◌}
use Rattle.closed_search.proofs.idle_roles.put_idle.Given as goal

abbrev pub invariant-loop-number : goal.invariant-loop-number
invariant-loop-number l = l.idle.limit ≡ l.initial.idle.limit
