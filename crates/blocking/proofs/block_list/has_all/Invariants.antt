use Rattle.std.proofs.Common.{◌≡◌, drop}
use Rattle.std.specs.List.{list_all}
use Rattle.calculus_specs.specs.State.{has as has_concept}
use Rattle.completion_tree.specs.Trail.{facts_in}
use Rattle.blocking.proofs.block_list.has_all.Given as goal

abbrev pub invariant-loop-concept : goal.invariant-loop-concept
invariant-loop-concept g l =
    list_all (has_concept (facts_in l.tree.entries) l.node) (drop l.concept-index l.concepts)
    ≡ list_all (has_concept (facts_in l.tree.entries) l.node) l.concepts
