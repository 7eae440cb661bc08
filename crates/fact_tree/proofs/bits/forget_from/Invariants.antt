use Rattle.std.proofs.Common.{◌-◌, length, take}
use Rattle.fact_tree.specs.Short.{AreIndexed}
use Rattle.fact_tree.proofs.bits.forget_from.Given as goal

abbrev pub invariant-loop-taken : goal.invariant-loop-taken
invariant-loop-taken g l = AreIndexed (take (length l.concepts - l.taken) l.concepts) l.bits.items
