use Rattle.std.proofs.Common.{◌-◌, ◌∙◌, sym, get_or, arith}
use Rattle.edit_session.proofs.Filed.{none_back, none_here, none_in}
use Rattle.edit_session.proofs.noted_places.latest_of.Goals as goal

pub loop-left-preserved : goal.loop-left-preserved
loop-left-preserved c =
    let log = c.args.log.now in
    let s = c.args.live.now in
    let q = c.args.query.now in
    let places = c.args.places.now in
    let left = c.loop-left.left - 1 in
    record {
      within = omega (arith, c.loop-left.invariant.within);
      none =
          none_back log s q places left
          (λ k low high. c.loop-left.invariant.none k (omega (arith, low, c.loop-left-test.true)) high)
          (none_here log s q (get_or places left 0) c.answer_at-found.result
          (sym c.is_some.ensures ∙ c.if-is_some.false) c.answer_at-found.ensures);
    }

pub returns : goal.returns
returns c =
    none_in c.args.log.now c.args.live.now c.args.query.now c.args.places.now
    (λ k low high. c.loop-left.invariant.none k (omega (arith, low, c.loop-left-test.false)) high)
