use Rattle.std.proofs.Common.{◌≡◌, ◌++◌, ◌∷◌, drop, map}
use Rattle.std.specs.Prelude.{decimal}
use Rattle.std.specs.List.{flat_map}
use Rattle.refutation_tree.proofs.writing.push_numbers.Given as goal

abbrev pub invariant-loop-number : goal.invariant-loop-number
invariant-loop-number l =
    l.text.items ++ flat_map (λ w. 32 ∷ w) (map decimal (drop l.number-index l.numbers))
    ≡ l.fn.text.items ++ flat_map (λ w. 32 ∷ w) (map decimal l.numbers)
