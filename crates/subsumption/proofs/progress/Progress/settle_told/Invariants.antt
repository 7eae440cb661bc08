use Rattle.std.proofs.Common.{◌≡◌}
use Rattle.subsumption.specs.Tests.{AreAlike}
use Rattle.subsumption.specs.Progress.{IsGoing, StaysSettled}
use Rattle.subsumption.proofs.progress.Progress.settle_told.Given as goal

abbrev pub invariant-loop-inclusion : goal.invariant-loop-inclusion
invariant-loop-inclusion l = record {
  going : IsGoing l.oracle l.self;
  count_is : l.self.known.count ≡ l.fn.self.known.count;
  stays : StaysSettled l.fn.self l.self;
  alike : AreAlike l.fn.oracle l.oracle;
}
