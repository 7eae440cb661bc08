use Rattle.std.proofs.Common.{◌≡◌, ◌+◌, false}
use Rattle.tableau.specs.SearchState.{IsSameSearch}
use Rattle.tableau.specs.Steps.{Runs}
use Rattle.tableau.proofs.search.Search.run_elsewhere.Given as goal

abbrev pub invariant-loop-done : goal.invariant-loop-done
invariant-loop-done g l = record {
  same : IsSameSearch l.fn.self l.self;
  runs : Runs l.fn.self l.self;
  counted : l.self.steps ≡ l.fn.self.steps + l._done;
  goes_on : l.self.ended ≡ false;
  whole : l.self.failed ≡ false;
}
