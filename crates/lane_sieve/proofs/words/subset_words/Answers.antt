use Rattle.std.proofs.Common.{◌∙◌, sym, true, false, arith, eq-eqb}
use Rattle.std.proofs.lemmas.Bool.{ne_eqb}
use Rattle.lane_sieve.specs.Words.{is_part}
use Rattle.lane_sieve.proofs.Blocks.{each_pair-block, each_pair-fails, each_pair-one}
use Rattle.lane_sieve.proofs.words.subset_words.Goals as goal

pub returns-then-not-is_part_at : goal.returns-then-not-is_part_at
returns-then-not-is_part_at c =
    sym (each_pair-fails is_part _ _ c.loop-at.at 4 c.requires (omega arith)
    (sym c.is_part_at.ensures ∙ c.if-not-is_part_at.true))

pub loop-at-preserved : goal.loop-at-preserved
loop-at-preserved c =
    record {
      within = omega arith;
      so_far =
          each_pair-block is_part _ _ c.loop-at.at 4 c.requires (omega arith) c.loop-at.invariant.so_far
          (sym c.is_part_at.ensures ∙ c.if-not-is_part_at.false);
    }

pub returns-then-a-at : goal.returns-then-a-at
returns-then-a-at c =
    sym (each_pair-fails is_part _ _ c.loop-at-2.at 1 c.requires (omega arith)
    (each_pair-one is_part c.args.a.now c.args.b.now _ (omega arith) (omega arith) false (ne_eqb _ _ c.if-a-at.true)))

pub loop-at-2-preserved : goal.loop-at-2-preserved
loop-at-2-preserved c =
    record {
      within = omega arith;
      so_far = each_pair-block is_part _ _ c.loop-at-2.at 1 c.requires (omega arith) c.loop-at-2.invariant.so_far
          (each_pair-one is_part c.args.a.now c.args.b.now _ (omega arith) (omega arith) true
          (eq-eqb _ _ c.if-a-at.false));
    }
