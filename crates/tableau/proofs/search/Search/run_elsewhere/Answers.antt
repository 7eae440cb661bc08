use Rattle.std.proofs.Common.{arith}
use Rattle.tableau.proofs.Kept.{elsewhere_event, elsewhere_idle, event_ends, event_moves, one_more, run_ends}
use Rattle.tableau.proofs.Kept.{same_search}
use Rattle.tableau.proofs.search.Search.run_elsewhere.Goals as goal

pub loop-done-preserved : goal.loop-done-preserved
loop-done-preserved g c =
    let a = c.args.self.now in
    let b = c.loop-done.self in
    let d = c.advance_elsewhere.new.self in
    let event =
    event_moves b d c.in-Some.event c.end.result c.end.ensures c.in-None-end.is
    (elsewhere_event b d c.in_ok-found.found c.in-Some.event c.in-Some.is c.in_ok-found.ensures.event) in
    let before = c.loop-done.invariant in
    record {
      same = same_search a b d before.same c.advance_elsewhere.ensures.same;
      runs = one_more a b d before.same before.runs event;
      counted = omega (arith, event.counted, before.counted);
      goes_on = event.goes_on;
      whole = c.in_ok-found.ensures.whole;
    }

pub returns-in-Some-end-clause-end : goal.returns-in-Some-end-clause-end
returns-in-Some-end-clause-end g c =
    let b = c.loop-done.self in
    let d = c.advance_elsewhere.new.self in
    event_ends c.args.fuel c.args.self.now b d c.in-Some.event c.end.result _ c.end.ensures c.in-Some-end.is
    c.loop-done.invariant.runs
    (elsewhere_event b d c.in_ok-found.found c.in-Some.event c.in-Some.is c.in_ok-found.ensures.event)

pub returns-in-None-clause-end : goal.returns-in-None-clause-end
returns-in-None-clause-end g c =
    elsewhere_idle c.args.self.now c.loop-done.self c.advance_elsewhere.new.self c.in_ok-found.found c.in-None.is
    c.loop-done.invariant.runs c.in_ok-found.ensures.event

pub returns-clause-end : goal.returns-clause-end
returns-clause-end g c =
    run_ends c.args.fuel c.args.self.now c.loop-done.self c.settle.new.self c.in_ok-end.end c.loop-done.invariant.runs
    (omega (arith, c.loop-done.invariant.counted, c.loop-done-test.false, c.loop-done.auto._done-end))
    c.in_ok-end.ensures.halted
