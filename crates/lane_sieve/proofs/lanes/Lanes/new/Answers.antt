use Rattle.std.proofs.Common.{arith}
use Rattle.lane_sieve.proofs.lanes.Lanes.new.Goals as goal

pub invariant_of-result : goal.invariant_of-result
invariant_of-result c = rw (c.new.ensures.items, c.new-2.ensures.items) (omega arith, tt)
