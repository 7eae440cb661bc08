use Rattle.std.proofs.Common.{◌+◌, take, arith}
use Rattle.std.proofs.lemmas.Grind.{common_steps}
use Rattle.shq_io.proofs.Prefixes.{OnErr-intro, TakesOutAtMost-more}
use Rattle.shq_io.proofs.whole.read_all.Goals as goal

-- the bytes for which there was no memory were taken too
pub returns-in_err-extend_from_slice-clause-err : goal.returns-in_err-extend_from_slice-clause-err
returns-in_err-extend_from_slice-clause-err g c =
    OnErr-intro _ _
    (TakesOutAtMost-more (g.S.Source.left c.args.source.now) (g.S.Source.left c.loop-chunk.source)
    (g.S.Source.left c.read.new.self) c.loop-chunk.bytes.items (take c.in_ok-count.count c.read.new.buf)
    (c.args.limit + 1)
    c.loop-chunk.invariant.taken c.in_ok-count.ensures.bytes.0
    (grind (arith, common_steps, c.in_ok-count.ensures.bound)))
