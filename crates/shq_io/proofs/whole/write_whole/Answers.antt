use Rattle.std.proofs.Common.{arith}
use Rattle.std.proofs.lemmas.Grind.{common_steps}
use Rattle.shq_io.proofs.Prefixes.{Appends-prefix}
use Rattle.shq_io.proofs.whole.write_whole.Goals as goal

pub loop-done-preserved : goal.loop-done-preserved
loop-done-preserved g c = record {
  taken =
      Appends-prefix (g.K.Sink.taken c.args.sink.now) (g.K.Sink.taken c.loop-done.sink)
      (g.K.Sink.taken c.write.new.self) c.args.text.now c.loop-done.done c.in_ok-done.field-0
      c.loop-done.invariant.taken c.in_ok-done.ensures.bytes;
  later = omega (arith, c.in_ok-done.ensures.cause.later);
  within = grind (arith, common_steps, c.in_ok-done.ensures.bound);
}
