use Rattle.std.proofs.Common.{◌≡◌, false}
use Rattle.search_tests.proofs.step_tests.step_on.Given as goal

abbrev pub invariant-loop-made : goal.invariant-loop-made
invariant-loop-made g l = record {
  counted : l.search.steps ≡ l._made;
  goes_on : l.search.ended ≡ false;
  whole : l.search.failed ≡ false;
}
