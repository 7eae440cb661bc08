use Rattle.subsumption.specs.Matrices.{IsMatrix}
use Rattle.subsumption.proofs.Bounded.{bounded_below}
use Rattle.subsumption.proofs.relation.bounded.Given as goal

abbrev pub invariant-loop-x : goal.invariant-loop-x
invariant-loop-x l = IsMatrix l.size (bounded_below l.greatest l.least l.x) l.matrix
