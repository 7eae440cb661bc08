use Rattle.std.proofs.Common.{◌≡◌, ◌<◌, ◌++◌, drop, map, option_map}
use Rattle.std.specs.List.{All}
use Rattle.finite_model.specs.ModelText.{elements_from}
use Rattle.finite_model.proofs.reading.read_elements.Given as goal

abbrev pub invariant-loop-word : goal.invariant-loop-word
invariant-loop-word l = record {
  told : option_map (λ xs. l.elements.items ++ xs)
      (elements_from l.low l.size (map (λ w. w.now) (drop l.word-index l.words)))
      ≡ elements_from 0 l.size (map (λ w. w.now) l.words);
  below : All (λ x. x < l.size) l.elements.items;
}
