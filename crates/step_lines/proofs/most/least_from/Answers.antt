use Rattle.std.proofs.Common.{◌&&◌, eqb, leb, arith, take}
use Rattle.std.specs.List.{list_any}
use Rattle.step_lines.proofs.First.{least_more, least_all}
use Rattle.step_lines.proofs.most.least_from.Goals as goal

pub loop-number-preserved : goal.loop-number-preserved
loop-number-preserved c =
    let i = c.loop-number.number-index in
    least_more c.args.numbers.now i 0 c.args.from (omega (arith, c.loop-number-test.true)) c.lesser-least.result
    (c.lesser-least.ensures (λ z. list_any (eqb z) (take i c.args.numbers.now) && leb c.args.from z)
    c.loop-number.invariant)

pub returns : goal.returns
returns c =
    least_all c.args.numbers.now c.loop-number.number-index c.args.from (omega (arith, c.loop-number-test.false))
    c.loop-number.least c.loop-number.invariant
