use Rattle.std.proofs.Common.{refl, get_or, arith}
use Rattle.std.proofs.lemmas.Nat.{ones-le}
use Rattle.lane_sieve.specs.Sets.{passing}
use Rattle.lane_sieve.proofs.Next.{count_more}
use Rattle.lane_sieve.proofs.members.count_numbers.Goals as goal

pub loop-word-init : goal.loop-word-init
unfolding passing
loop-word-init c = record { counted = refl; small = omega arith }

pub loop-word-preserved : goal.loop-word-preserved
loop-word-preserved c =
    let i = c.loop-word.word-index in
    let fits = (c.type_inv.words i).fits in
    record {
      counted = count_more c.args.words.now i c.loop-word.count fits c.loop-word.invariant.counted;
      small = omega (arith, ones-le 64 (get_or c.args.words.now i 0) fits);
    }
