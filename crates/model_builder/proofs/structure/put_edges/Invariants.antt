use Rattle.std.proofs.Common.{◌≡◌, ◌++◌, drop}
use Rattle.calculus_specs.specs.Joins.{rep}
use Rattle.blocking.specs.Trail.{facts_in}
use Rattle.model_builder.specs.Collected.{edges_by}
use Rattle.model_builder.proofs.structure.put_edges.Given as goal

-- what is put is what stands before this place
abbrev pub invariant-loop-edge : goal.invariant-loop-edge
invariant-loop-edge g l =
    l.edges.items ++ edges_by (rep (facts_in l.tree.entries)) l.numbers l.element (drop l.edge-index l.begun)
    ≡ l.fn.edges.items ++ edges_by (rep (facts_in l.tree.entries)) l.numbers l.element l.begun
