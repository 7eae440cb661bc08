use Rattle.std.proofs.Common.{◌+◌, ◌*◌, ◌-◌, arith}
use Rattle.fact_tree.proofs.Indexed.{grown}
use Rattle.fact_tree.proofs.bits.grow.Goals as goal

pub returns-clause-same : goal.returns-clause-same
returns-clause-same g c =
    grown c.args.bits.now.items (2 * c.args.place + 1) (2 * c.args.place + 1 - c.args.bits.now.len)
    c.resize.new.self.items (omega (arith, c.requires.past)) c.in_ok-resize.ensures.items
