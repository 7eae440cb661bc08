use Rattle.std.proofs.Common.{◌-◌, length, arith}
use Rattle.lane_sieve.proofs.Next.{top-member, top-greatest}
use Rattle.lane_sieve.proofs.members.last_number.Goals as goal

pub returns-clause-member : goal.returns-clause-member
returns-clause-member c =
    top-member c.args.words.now (length c.args.words.now - 1) c.ilog2.result c.ilog2.ensures.power_le
    c.ilog2.ensures.next_power_gt c.ilog2.ensures.bound

pub returns-clause-greatest : goal.returns-clause-greatest
returns-clause-greatest c =
    top-greatest c.args.words.now (length c.args.words.now - 1) c.ilog2.result c.ilog2.ensures.power_le
    c.ilog2.ensures.next_power_gt c.ilog2.ensures.bound (omega arith)
