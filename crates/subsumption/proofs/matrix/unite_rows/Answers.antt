use Rattle.std.proofs.Common.{◌≡◌, ◌∙◌, ◌-◌, refl, sym, arith}
use Rattle.axiom_sets.specs.Sets.{member_list}
use Rattle.subsumption.proofs.United.{begins_uniting, next_within, next_limit, unites_next}
use Rattle.subsumption.proofs.matrix.unite_rows.Goals as goal

pub loop-number-init : goal.loop-number-init
loop-number-init c =
    let all : c.into_iter-number-iterator.result ≡ member_list c.args.chosen.now =
    c.into_iter-number-iterator.ensures.into_iter_gives ∙ c.numbers-number-items.ensures.members in
    begins_uniting c.args.chosen.now.limit c.args.chosen.now c.args.added.now c.args.rows.now _ c.requires.square refl
    c.numbers-number-items.ensures.within all

pub overflow_sub-number : goal.overflow_sub-number
overflow_sub-number c =
    (next_within c.args.chosen.now.limit c.args.chosen.now c.args.added.now c.args.rows.now c.loop-number.rows
    c.loop-number.number-iterator c.loop-number.invariant c.in-Some.number c.next.new.self c.in-Some.ensures.steps).0

pub bounds-rows-number : goal.bounds-rows-number
bounds-rows-number c =
    let h =
    next_within c.args.chosen.now.limit c.args.chosen.now c.args.added.now c.args.rows.now c.loop-number.rows
    c.loop-number.number-iterator c.loop-number.invariant c.in-Some.number c.next.new.self c.in-Some.ensures.steps in
    omega (arith, h.0, h.1, c.loop-number.invariant.square.long)

pub put_all-requires : goal.put_all-requires
put_all-requires c =
    c.requires.added
    ∙ sym (next_limit c.args.chosen.now.limit c.args.chosen.now c.args.added.now c.args.rows.now c.loop-number.rows
    c.loop-number.number-iterator c.loop-number.invariant c.in-Some.number c.next.new.self c.in-Some.ensures.steps
    c.index-rows-number.result)

pub loop-number-preserved : goal.loop-number-preserved
loop-number-preserved c =
    unites_next c.args.chosen.now.limit c.args.chosen.now c.args.added.now c.args.rows.now c.loop-number.rows
    c.loop-number.number-iterator c.loop-number.invariant c.in-Some.number c.next.new.self c.in-Some.ensures.steps
    (c.in-Some.number - 1)
    c.put_all.new.self c.index-rows-number.result refl c.put_all.ensures.limit c.put_all.ensures.members
