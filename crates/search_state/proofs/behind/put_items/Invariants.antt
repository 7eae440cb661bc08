use Rattle.std.proofs.Common.{◌≡◌, ◌++◌, take}
use Rattle.search_state.specs.Beginning.{given_entries}
use Rattle.search_state.proofs.behind.put_items.Given as goal

abbrev pub invariant-loop-item : goal.invariant-loop-item
invariant-loop-item g l =
    l.tree ≡ record l.fn.tree { entries = l.fn.tree.entries ++ given_entries (take l.item-index l.items) }
