use Rattle.std.proofs.Common.{◌∙◌, arith, length-set}
use Rattle.std.specs.Prelude.{bit_or}
use Rattle.lane_sieve.proofs.Blocks.{zip2-block, zip2-one}
use Rattle.lane_sieve.proofs.words.union_words.Goals as goal

pub loop-a-preserved : goal.loop-a-preserved
loop-a-preserved c =
    let block =
    zip2-block bit_or c.args.a.now c.loop-a.a c.args.b.now c.loop-a.at 4 c.requires c.loop-a.auto.a (omega arith)
    c.loop-a.invariant.so_far c.loop-a.invariant.rest in
    record {
      within = omega (arith, c.unite_at.auto.a);
      so_far = rw c.unite_at.ensures block.0;
      rest = rw c.unite_at.ensures block.1;
    }

pub loop-at-preserved : goal.loop-at-preserved
loop-at-preserved c =
    let one =
    zip2-one bit_or c.args.a.now c.loop-at.a c.args.b.now c.loop-at.at c.requires (c.loop-at.auto.a ∙ c.loop-a.auto.a)
    (omega arith) c.loop-at.invariant.so_far c.loop-at.invariant.rest in
    record { within = rw length-set (omega arith); so_far = one.0; rest = one.1 }
