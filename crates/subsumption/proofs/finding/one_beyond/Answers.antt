use Rattle.std.proofs.Common.{◌≡◌, ◌∙◌, ◌+◌, ◌-◌, ap, sym, arith}
use Rattle.std.specs.FinSet as sets
use Rattle.subsumption.proofs.Firsts.{all_up_to, next_up_to, others_up_to}
use Rattle.subsumption.proofs.finding.one_beyond.Goals as goal

pub loop-number-init : goal.loop-number-init
loop-number-init c =
    all_up_to c.args.classes.now.limit c.args.ahead.now c.into_iter-number-iterator.result
    c.numbers-number-items.ensures.within c.requires.ahead
    (c.into_iter-number-iterator.ensures.into_iter_gives ∙ c.numbers-number-items.ensures.members)

pub has-requires-clause-low : goal.has-requires-clause-low
has-requires-clause-low c =
    (next_up_to c.args.classes.now.limit c.loop-number.number-iterator c.loop-number.invariant c.in-Some.number
    c.next.new.self c.in-Some.ensures.steps).0

pub has-requires-clause-high : goal.has-requires-clause-high
has-requires-clause-high c =
    (next_up_to c.args.classes.now.limit c.loop-number.number-iterator c.loop-number.invariant c.in-Some.number
    c.next.new.self c.in-Some.ensures.steps).1

pub has-requires-then-has-clause-low : goal.has-requires-then-has-clause-low
has-requires-then-has-clause-low c =
    (next_up_to c.args.classes.now.limit c.loop-number.number-iterator c.loop-number.invariant c.in-Some.number
    c.next.new.self c.in-Some.ensures.steps).0

pub has-requires-then-has-clause-high : goal.has-requires-then-has-clause-high
has-requires-then-has-clause-high c =
    let h =
    next_up_to c.args.classes.now.limit c.loop-number.number-iterator c.loop-number.invariant c.in-Some.number
    c.next.new.self c.in-Some.ensures.steps in
    omega (arith, h.1, c.requires.behind)

pub overflow_sub-result : goal.overflow_sub-result
overflow_sub-result c =
    (next_up_to c.args.classes.now.limit c.loop-number.number-iterator c.loop-number.invariant c.in-Some.number
    c.next.new.self c.in-Some.ensures.steps).0

pub returns-then-not-has-clause-within : goal.returns-then-not-has-clause-within
returns-then-not-has-clause-within c =
    let h =
    next_up_to c.args.classes.now.limit c.loop-number.number-iterator c.loop-number.invariant c.in-Some.number
    c.next.new.self c.in-Some.ensures.steps in
    omega (arith, h.0, h.1)

pub returns-then-not-has-clause-member : goal.returns-then-not-has-clause-member
returns-then-not-has-clause-member c =
    let h =
    next_up_to c.args.classes.now.limit c.loop-number.number-iterator c.loop-number.invariant c.in-Some.number
    c.next.new.self c.in-Some.ensures.steps in
    let back : (c.in-Some.number - 1) + 1 ≡ c.in-Some.number = omega (arith, h.0) in
    ap (sets.contains c.args.classes.now.members) back ∙ sym c.if-has.ensures

pub loop-number-preserved : goal.loop-number-preserved
loop-number-preserved c =
    others_up_to c.args.classes.now.limit c.loop-number.number-iterator c.loop-number.invariant c.in-Some.number
    c.next.new.self c.in-Some.ensures.steps
