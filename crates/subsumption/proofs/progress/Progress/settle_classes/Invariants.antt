use Rattle.std.proofs.Common.{ℕ, ◌<◌}
use Rattle.subsumption.specs.Tests.{AreAlike}
use Rattle.subsumption.specs.Progress.{IsGoing, IsDone}
use Rattle.subsumption.proofs.progress.Progress.settle_classes.Given as goal

abbrev pub invariant-loop-class : goal.invariant-loop-class
invariant-loop-class l = record {
  going : IsGoing l.oracle l.self;
  done : (x : ℕ) → x < l.class → IsDone l.self x;
  alike : AreAlike l.fn.oracle l.oracle;
}
