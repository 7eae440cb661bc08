use Rattle.std.proofs.Common.{◌≡◌, take}
use Rattle.calculus_specs.specs.Tree.{tree_of}
use Rattle.calculus_specs.specs.Rules.{are_fillers}
use Rattle.refutation_rules.specs.Outcomes.{known_of}
use Rattle.refutation_rules.specs.RefutationContext.{theory}
use Rattle.refutation_rules.proofs.rules.Rules.are_fillers.Given as goal

abbrev pub invariant-loop-end : goal.invariant-loop-end
invariant-loop-end l =
    l.fill ≡ are_fillers (theory l.self) (known_of l.self.table l.fn.branch) l.node l.role
    (tree_of l.self.table l.filler) (take l.end-index l.ends)
