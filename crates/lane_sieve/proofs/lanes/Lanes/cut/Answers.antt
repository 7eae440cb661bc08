use Rattle.std.proofs.Common.{arith, ap, length}
use Rattle.std.proofs.lemmas.List.{length-take-le}
use Rattle.lane_sieve.proofs.Columns.{firsts-take}
use Rattle.lane_sieve.proofs.lanes.Lanes.cut.Goals as goal

pub invariant_of-self : goal.invariant_of-self
invariant_of-self c =
    let less = length-take-le c.args.len c.self.inside.prints.items (omega (arith, ap length c.self.view_is)) in
    rw (c.truncate.ensures.items, c.truncate-2.ensures.items)
    (omega (arith, less, c.self.invariant.0), firsts-take c.args.len _ _ c.self.invariant.1)
