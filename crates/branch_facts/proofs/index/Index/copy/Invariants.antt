use Rattle.branch_facts.proofs.Grown.{IsCopying}
use Rattle.branch_facts.proofs.index.Index.copy.Given as goal

abbrev pub invariant-loop-place : goal.invariant-loop-place
invariant-loop-place l = IsCopying l.high l.low l.place l.initial.self l.self
