use Rattle.std.proofs.Common.{◌≡◌, ◌++◌, drop, map, option_map}
use Rattle.refutation_tree.specs.RefutationText.{numbers_in}
use Rattle.refutation_tree.proofs.fields.read_numbers.Given as goal

abbrev pub invariant-loop-word : goal.invariant-loop-word
invariant-loop-word l =
    option_map (λ ns. l.numbers.items ++ ns) (numbers_in (map (λ w. w.now) (drop l.word-index l.words)))
    ≡ numbers_in (map (λ w. w.now) l.words)
