use Rattle.std.proofs.Common.{take}
use Rattle.fact_tree.specs.Short.{HaveBits}
use Rattle.fact_tree.proofs.bits.put_bits.Given as goal

abbrev pub invariant-loop-concept : goal.invariant-loop-concept
invariant-loop-concept g l = HaveBits (take l.concept-index l.concepts) l.bits.items
