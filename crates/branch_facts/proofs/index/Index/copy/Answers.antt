use Rattle.std.proofs.Common.{◌<◌, length, arith, ap}
use Rattle.branch_facts.specs.Seen.{Index as PlainIndex}
use Rattle.branch_facts.proofs.Grown.{copying_on}
use Rattle.branch_facts.proofs.index.Index.copy.Goals as goal

pub loop-place-preserved : goal.loop-place-preserved
loop-place-preserved c =
    let old : PlainIndex = c.args.self.now in
    let seen = ap (λ (i : PlainIndex). length i.seen) c.self.view_is in
    let lt : c.loop-place.place < length old.seen =
    omega (arith, c.loop-place-test.true, c.len-place-end.ensures.len, seen) in
    copying_on c.args.high c.args.low c.loop-place.place old c.loop-place.self c.copy_at.new.self lt
    c.loop-place.invariant c.in_ok-copy_at.ensures.put
