use Rattle.std.proofs.Common.{◌∙◌}
use Rattle.lane_sieve.proofs.Compared.{bit-within, place-within, compared-first, compared-second, order_same}
use Rattle.lane_sieve.proofs.order.compare_numbers.Goals as goal

pub returns-in_default : goal.returns-in_default
returns-in_default c = order_same c.args.xs.now c.args.ys.now c.in_default.ensures.none

pub overflow_shr-xs : goal.overflow_shr-xs
overflow_shr-xs c =
    bit-within c.args.xs.now c.args.ys.now c.in-Some.place c.in-Some.ensures.first c.in-Some.ensures.differ
    (c.type_inv.xs c.in-Some.place).fits (c.type_inv.ys c.in-Some.place).fits

pub order_by_first-requires-else-xs-place-eq1-clause-within :
    goal.order_by_first-requires-else-xs-place-eq1-clause-within
order_by_first-requires-else-xs-place-eq1-clause-within c =
    place-within c.args.xs.now c.args.ys.now c.in-Some.place c.in-Some.ensures.first c.in-Some.ensures.differ
    (c.type_inv.xs c.in-Some.place).fits (c.type_inv.ys c.in-Some.place).fits c.requires.same c.in-Some.ensures.within

pub returns-then-xs-place-eq1 : goal.returns-then-xs-place-eq1
returns-then-xs-place-eq1 c =
    compared-first c.args.xs.now c.args.ys.now c.in-Some.place c.in-Some.ensures.first c.in-Some.ensures.differ
    (c.type_inv.xs c.in-Some.place).fits (c.type_inv.ys c.in-Some.place).fits c.requires.same c.in-Some.ensures.within
    c.if-xs-place-eq1.true
    c.order_by_first.result c.order_by_first.ensures

pub returns-else-xs-place-eq1 : goal.returns-else-xs-place-eq1
returns-else-xs-place-eq1 c =
    c.reverse.ensures
    ∙ compared-second c.args.xs.now c.args.ys.now c.in-Some.place c.in-Some.ensures.first c.in-Some.ensures.differ
    (c.type_inv.xs c.in-Some.place).fits (c.type_inv.ys c.in-Some.place).fits c.requires.same c.in-Some.ensures.within
    c.if-xs-place-eq1.false c.order_by_first-else-xs-place-eq1.result c.order_by_first-else-xs-place-eq1.ensures
