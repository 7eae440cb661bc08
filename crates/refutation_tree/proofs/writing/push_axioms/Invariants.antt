use Rattle.std.proofs.Common.{◌≡◌, ◌++◌, ◌∷◌, map}
use Rattle.std.specs.Prelude.{codes, decimal}
use Rattle.std.specs.List.{flat_map}
use Rattle.axiom_sets.specs.Sets.{member_list}
use Rattle.refutation_tree.proofs.writing.push_axioms.Given as goal

abbrev pub invariant-loop-number : goal.invariant-loop-number
invariant-loop-number l =
    l.text.items ++ flat_map (λ w. 32 ∷ w) (map decimal l.number-iterator)
    ≡ l.fn.text.items ++ codes "axioms" ++ flat_map (λ w. 32 ∷ w) (map decimal (member_list l.axioms))
