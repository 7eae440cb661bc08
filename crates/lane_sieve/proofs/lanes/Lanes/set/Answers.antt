use Rattle.std.proofs.Common.{arith, ap, length, length-set}
use Rattle.lane_sieve.proofs.Columns.{firsts-length, firsts-set}
use Rattle.lane_sieve.proofs.lanes.Lanes.set.Goals as goal

pub index_mut-requires-2 : goal.index_mut-requires-2
index_mut-requires-2 c = omega (arith, firsts-length _ _ c.self.invariant.1, ap length c.self.view_is)

pub invariant_of-self : goal.invariant_of-self
invariant_of-self c =
    (rw length-set c.self.invariant.0, firsts-set c.args.place _ _ c.args.print (omega arith) c.self.invariant.1)
