use Rattle.std.proofs.Common.{◌≡◌, take}
use Rattle.shq_nnf.specs.Opened.{disjunct_numbers}
use Rattle.shq_nnf.proofs.concepts.Concepts.disjuncts.Given as goal

abbrev pub invariant-loop-part : goal.invariant-loop-part
invariant-loop-part l = l.members.items ≡ disjunct_numbers l.self (take l.part-index l.parts)
