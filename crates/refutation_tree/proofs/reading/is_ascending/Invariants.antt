use Rattle.std.proofs.Common.{◌≡◌, ◌-◌, drop}
use Rattle.shq_nnf.specs.TheoryRows.{is_ascending}
use Rattle.refutation_tree.proofs.reading.is_ascending.Given as goal

abbrev pub invariant-loop-index : goal.invariant-loop-index
invariant-loop-index l = is_ascending (drop (l.index - 1) l.numbers) ≡ is_ascending l.numbers
