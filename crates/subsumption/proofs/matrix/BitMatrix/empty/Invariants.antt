use Rattle.subsumption.proofs.United.{AreBlank}
use Rattle.subsumption.proofs.matrix.BitMatrix.empty.Given as goal

abbrev pub invariant-loop : goal.invariant-loop
invariant-loop l = AreBlank l.size l.counter l.rows.items
