use Rattle.std.proofs.Common.{◌≡◌, map, take}
use Rattle.std.specs.List.{list_all}
use Rattle.refutation_truth.specs.TheoryRows.{is_name, conjunct_at}
use Rattle.refutation_truth.specs.Tree.{tree_of}
use Rattle.row_cache.proofs.cached_row.are_names.Given as goal

abbrev pub invariant-loop-position : goal.invariant-loop-position
invariant-loop-position l =
    l.names
    ≡ list_all (λ i. is_name (conjunct_at (map (tree_of l.concepts) l.conjuncts) i)) (take l.position-index l.positions)
