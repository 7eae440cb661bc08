use Rattle.std.proofs.Common.{◌+◌, take, map, subst, sym, arith, length}
use Rattle.refutation_truth.specs.Normal.{negated_form}
use Rattle.refutation_truth.specs.Tree.{tree_of}
use Rattle.refutation_truth.specs.Numbers.{AreNumbers}
use Rattle.refutation_truth.proofs.Numbers.{extends_twice}
use Rattle.refutation_truth.proofs.Stable.{complements_push}
use Rattle.row_cache.proofs.cached_row.complements.Goals as goal

pub loop-part-preserved : goal.loop-part-preserved
loop-part-preserved c =
    let first = c.args.concepts.now in
    let before = c.loop-part.concepts in
    let after = c.negated.new.self in
    let ns = c.loop-part.numbers.items in
    record {
      are =
          subst (λ l. AreNumbers after l
          (map (λ d. negated_form (tree_of first d)) (take (c.loop-part.part-index + 1) c.args.parts.now)))
          (sym c.in_ok-push.ensures.items)
          (complements_push first before after (length first) c.args.parts.now c.loop-part.part-index ns
          c.in_ok-number.number (omega arith) c.requires c.loop-part-test.true c.loop-part.invariant.kept
          c.negated.ensures.kept c.loop-part.invariant.are c.in_ok-number.ensures.number);
      kept = extends_twice first before after c.loop-part.invariant.kept c.negated.ensures.kept;
    }
