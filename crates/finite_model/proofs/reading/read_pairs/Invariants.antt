use Rattle.std.proofs.Common.{◌≡◌, ◌<◌, ◌++◌, drop, map, option_map}
use Rattle.std.specs.List.{All}
use Rattle.finite_model.specs.ModelText.{pairs_from}
use Rattle.finite_model.proofs.reading.read_pairs.Given as goal

abbrev pub invariant-loop-word : goal.invariant-loop-word
invariant-loop-word l = record {
  told : option_map (λ ps. l.pairs.items ++ ps) (pairs_from l.low l.size (map (λ w. w.now) (drop l.word-index l.words)))
      ≡ pairs_from (record { from = 0; to = 0 }) l.size (map (λ w. w.now) l.words);
  below : All (λ p. (p.from < l.size) × (p.to < l.size)) l.pairs.items;
}
