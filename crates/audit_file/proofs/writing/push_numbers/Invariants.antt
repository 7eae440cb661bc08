use Rattle.std.proofs.Common.{◌≡◌, ◌++◌, ◌∷◌, map}
use Rattle.std.specs.Prelude.{decimal}
use Rattle.std.specs.List.{flat_map}
use Rattle.axiom_sets.specs.Sets.{member_list}
use Rattle.audit_file.proofs.writing.push_numbers.Given as goal

abbrev pub invariant-loop-number : goal.invariant-loop-number
invariant-loop-number l =
    l.text.items ++ flat_map (λ w. 32 ∷ w) (map decimal l.number-iterator)
    ≡ l.fn.text.items ++ flat_map (λ w. 32 ∷ w) (map decimal (member_list l.set))
