use Rattle.std.proofs.Common.{◌≡◌}
use Rattle.fact_tree.specs.Kept.{empty}
use Rattle.fact_tree.proofs.store.Store.new_in.Given as goal

abbrev pub invariant-loop : goal.invariant-loop
invariant-loop g l = l.store ≡ empty l.counter
