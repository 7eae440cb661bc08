use Rattle.std.proofs.Common.{◌<◌, [], sym, ◌∙◌, arith}
use Rattle.std.proofs.lemmas.List.Elements.{All-push}
use Rattle.finite_model.proofs.Pairs.{pairs_more}
use Rattle.finite_model.proofs.reading.read_pairs.Goals as goal

pub loop-word-preserved : goal.loop-word-preserved
loop-word-preserved c = record {
  told =
      rw c.in_ok-push.ensures.items
      (pairs_more c.loop-word.pairs.items c.loop-word.low c.args.size c.args.words.now c.loop-word.word-index
      (record { ref_ptr = (0, 0); now = [] }) c.in-Some.pair (omega arith)
      (sym c.read_pair_from.ensures.pair ∙ c.in-Some.is)
      ∙ c.loop-word.invariant.told);
  below =
      rw c.in_ok-push.ensures.items
      (All-push (λ p. (p.from < c.args.size) × (p.to < c.args.size)) c.loop-word.pairs.items c.in-Some.pair
      c.loop-word.invariant.below c.in-Some.ensures.below);
}
