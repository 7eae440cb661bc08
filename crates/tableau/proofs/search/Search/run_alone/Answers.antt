use Rattle.std.proofs.Common.{arith}
use Rattle.tableau.proofs.Kept.{event_ends, event_moves, one_more, run_ends, same_search}
use Rattle.tableau.proofs.search.Search.run_alone.Goals as goal

pub loop-done-preserved : goal.loop-done-preserved
loop-done-preserved g c =
    let a = c.args.self.now in
    let b = c.loop-done.self in
    let d = c.advance.new.self in
    let event =
    event_moves b d c.in_ok-event.event c.end.result c.end.ensures c.in-None.is c.in_ok-event.ensures.event in
    let before = c.loop-done.invariant in
    record {
      same = same_search a b d before.same c.advance.ensures.same;
      runs = one_more a b d before.same before.runs event;
      counted = omega (arith, event.counted, before.counted);
      goes_on = event.goes_on;
      whole = c.in_ok-event.ensures.whole;
    }

pub returns-in-Some-clause-end : goal.returns-in-Some-clause-end
returns-in-Some-clause-end g c =
    event_ends c.args.fuel c.args.self.now c.loop-done.self c.advance.new.self c.in_ok-event.event c.end.result _
    c.end.ensures c.in-Some.is c.loop-done.invariant.runs c.in_ok-event.ensures.event

pub returns-then-has_met_other-clause-end : goal.returns-then-has_met_other-clause-end
returns-then-has_met_other-clause-end g c =
    let a = c.args.self.now in
    let b = c.loop-done.self in
    let d = c.advance.new.self in
    let event =
    event_moves b d c.in_ok-event.event c.end.result c.end.ensures c.in-None.is c.in_ok-event.ensures.event in
    let before = c.loop-done.invariant in
    record {
      runs = one_more a b d before.same before.runs event;
      goes_on = event.goes_on;
      has_met = c.has_met_other.ensures c.if-has_met_other.true;
    }

pub returns-clause-end : goal.returns-clause-end
returns-clause-end g c =
    run_ends c.args.fuel c.args.self.now c.loop-done.self c.settle.new.self c.in_ok-end.end c.loop-done.invariant.runs
    (omega (arith, c.loop-done.invariant.counted, c.loop-done-test.false, c.loop-done.auto._done-end))
    c.in_ok-end.ensures.halted
