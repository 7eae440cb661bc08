use Rattle.std.proofs.Common.{arith}
use Rattle.std.proofs.lemmas.Result.{IfOk-weaker}
use Rattle.tableau.specs.Steps.{IsEnd}
use Rattle.tableau.specs.Inside.{IsHalted}
use Rattle.tableau.proofs.Kept.{moved_event, one_more, same_search, ends_lost, run_ends}
use Rattle.tableau.proofs.search.Search.run.Goals as goal

pub loop-made-preserved : goal.loop-made-preserved
loop-made-preserved g c =
    let a = c.args.self.now in
    let b = c.loop-made.self in
    let d = c.advance.new.self in
    let event = moved_event b d c.in_ok-advance.field-0 c.in-Moved.is c.in_ok-advance.ensures.event in
    let before = c.loop-made.invariant in
    record {
      same = same_search a b d before.same c.advance.ensures.same;
      runs = one_more a b d before.same before.runs event;
      counted = omega (arith, event.counted, before.counted);
      goes_on = event.goes_on;
      whole = c.in_ok-advance.ensures.whole;
    }

pub returns-in-Lost-clause-end : goal.returns-in-Lost-clause-end
returns-in-Lost-clause-end g c =
    ends_lost c.args.fuel c.args.self.now c.loop-made.self c.advance.new.self c.in_ok-advance.field-0 c.in-Lost.is
    c.loop-made.invariant.runs c.in_ok-advance.ensures.event

pub returns-clause-end : goal.returns-clause-end
returns-clause-end g c =
    IfOk-weaker c.settle.result (IsHalted c.loop-made.self c.settle.new.self)
    (IsEnd c.args.fuel c.args.self.now c.settle.new.self)
    (λ e h. run_ends c.args.fuel c.args.self.now c.loop-made.self c.settle.new.self e c.loop-made.invariant.runs
    (omega (arith, c.loop-made.invariant.counted, c.loop-made-test.false, c.loop-made.auto._made-end)) h)
    c.settle.ensures.halted
