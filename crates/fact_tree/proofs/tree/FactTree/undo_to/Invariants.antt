use Rattle.std.proofs.Common.{◌≡◌, ◌-◌, length, take}
use Rattle.fact_tree.proofs.tree.FactTree.undo_to.Given as goal

abbrev pub invariant-loop : goal.invariant-loop
invariant-loop g l =
    l.self ≡ record l.fn.self { facts = take (length l.fn.self.facts - (l.counter - l.len)) l.fn.self.facts }
