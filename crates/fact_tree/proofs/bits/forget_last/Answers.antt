use Rattle.std.proofs.Common.{arith}
use Rattle.fact_tree.proofs.Indexed.{less_indexed, nothing_indexed}
use Rattle.fact_tree.proofs.bits.forget_last.Goals as goal

pub returns-then-concept-len : goal.returns-then-concept-len
returns-then-concept-len g c =
    less_indexed c.args.concepts.now c.args.bits.now.items c.take_bit.new.bits.items c.args.index c.requires.within
    c.requires.new c.take_bit.ensures.taken c.take_bit.ensures.same c.requires.indexed

pub returns-else-concept-len : goal.returns-else-concept-len
returns-else-concept-len g c =
    nothing_indexed c.args.concepts.now c.args.bits.now.items c.args.index c.requires.within
    (omega (arith, c.if-concept-len.false, c.len.ensures)) c.requires.indexed
