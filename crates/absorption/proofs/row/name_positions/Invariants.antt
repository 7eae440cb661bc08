use Rattle.std.proofs.Common.{◌≡◌, ◌+◌, ◌++◌, map, drop}
use Rattle.calculus_specs.specs.Tree.{tree_of}
use Rattle.absorption.specs.Triggers.{name_positions}
use Rattle.absorption.proofs.row.name_positions.Given as goal

-- what is put is what stands before this place
abbrev pub invariant-loop-index : goal.invariant-loop-index
invariant-loop-index l =
    l.positions ++ name_positions (l.index + 1) (map (tree_of l.concepts) (drop l.index l.conjuncts))
    ≡ name_positions 1 (map (tree_of l.concepts) l.conjuncts)
