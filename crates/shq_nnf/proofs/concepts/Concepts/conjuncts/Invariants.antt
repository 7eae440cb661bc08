use Rattle.std.proofs.Common.{◌≡◌, take}
use Rattle.shq_nnf.specs.Opened.{conjunct_numbers}
use Rattle.shq_nnf.proofs.concepts.Concepts.conjuncts.Given as goal

abbrev pub invariant-loop-part : goal.invariant-loop-part
invariant-loop-part l = l.members.items ≡ conjunct_numbers l.self (take l.part-index l.parts)
