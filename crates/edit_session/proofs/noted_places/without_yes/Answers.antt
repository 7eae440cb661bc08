use Rattle.std.proofs.Common.{arith, refl, get_or, length, ◌≤◌}
use Rattle.edit_session.proofs.Filed.{others_next, others_all}
use Rattle.edit_session.proofs.noted_places.without_yes.Goals as goal

pub loop-place-preserved : goal.loop-place-preserved
loop-place-preserved c =
    let all = c.args.places.now in
    let i = c.loop-place.place-index in
    others_next c.args.log.now c.args.query.now all c.loop-place.kept c.push_unless.new.kept i (get_or all i 0)
    c.is_yes_at.result refl c.loop-place-test.true c.loop-place.invariant c.is_yes_at.ensures
    c.in_ok-push_unless.ensures

pub returns : goal.returns
returns c =
    let all = c.args.places.now in
    let end : length all ≤ c.loop-place.place-index = omega (arith, c.loop-place-test.false) in
    others_all c.args.log.now c.args.query.now all c.loop-place.kept c.loop-place.place-index end c.loop-place.invariant
