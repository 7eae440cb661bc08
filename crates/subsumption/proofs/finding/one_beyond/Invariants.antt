use Rattle.subsumption.proofs.Firsts.{AreUpTo}
use Rattle.subsumption.proofs.finding.one_beyond.Given as goal

abbrev pub invariant-loop-number : goal.invariant-loop-number
invariant-loop-number l = AreUpTo l.classes.limit l.number-iterator
