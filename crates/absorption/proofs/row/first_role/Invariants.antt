use Rattle.std.proofs.Common.{◌≡◌, map, drop}
use Rattle.calculus_specs.specs.Tree.{tree_of}
use Rattle.absorption.specs.Triggers.{first_role}
use Rattle.absorption.proofs.row.first_role.Given as goal

abbrev pub invariant-loop-conjunct : goal.invariant-loop-conjunct
invariant-loop-conjunct l =
    first_role (map (tree_of l.concepts) (drop l.conjunct-index l.conjuncts))
    ≡ first_role (map (tree_of l.concepts) l.conjuncts)
