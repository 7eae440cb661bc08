use Rattle.subsumption.proofs.United.{IsUniting}
use Rattle.subsumption.proofs.matrix.unite_rows.Given as goal

abbrev pub invariant-loop-number : goal.invariant-loop-number
invariant-loop-number l = IsUniting l.chosen.limit l.chosen l.added l.fn.rows l.rows l.number-iterator
