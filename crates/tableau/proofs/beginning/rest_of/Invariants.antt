use Rattle.std.proofs.Common.{◌≡◌, ◌++◌, drop}
use Rattle.search_state.specs.Trail.{items_of}
use Rattle.tableau.proofs.beginning.rest_of.Given as goal

abbrev pub invariant-loop-place : goal.invariant-loop-place
invariant-loop-place g l =
    l.rest.items ++ drop l.place (items_of l.tree.entries) ≡ drop 2 (items_of l.tree.entries)
