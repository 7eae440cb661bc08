use Rattle.std.proofs.Common.{get_or, refl}
use Rattle.ofn_expressions.proofs.Digits.{cut_step}
use Rattle.ofn_expressions.proofs.numbers.capped_value.Goals as goal

pub loop-byte-preserved : goal.loop-byte-preserved
loop-byte-preserved c = record {
  value =
      cut_step c.args.text.now c.loop-byte.byte-index (get_or c.args.text.now c.loop-byte.byte-index 0)
      c.loop-byte.number c.next_number-number.result refl c.loop-byte-test.true c.loop-byte.invariant.within
      c.next_number-number.ensures.value c.loop-byte.invariant.value;
  within = c.next_number-number.ensures.within;
}
