use Rattle.std.proofs.Common.{◌≡◌, drop}
use Rattle.fact_tree.specs.Kept.{set_each}
use Rattle.fact_tree.proofs.store.link_each.Given as goal

abbrev pub invariant-loop-node : goal.invariant-loop-node
invariant-loop-node l = set_each (drop l.node-index l.nodes) l.to l.links ≡ set_each l.nodes l.to l.fn.links
