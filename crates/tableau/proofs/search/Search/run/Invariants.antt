use Rattle.std.proofs.Common.{◌≡◌, ◌+◌, false}
use Rattle.tableau.specs.SearchState.{IsSameSearch}
use Rattle.tableau.specs.Steps.{Runs}
use Rattle.tableau.proofs.search.Search.run.Given as goal

abbrev pub invariant-loop-made : goal.invariant-loop-made
invariant-loop-made g l = record {
  same : IsSameSearch l.fn.self l.self;
  runs : Runs l.fn.self l.self;
  counted : l.self.steps ≡ l.fn.self.steps + l._made;
  goes_on : l.self.ended ≡ false;
  whole : l.self.failed ≡ false;
}
