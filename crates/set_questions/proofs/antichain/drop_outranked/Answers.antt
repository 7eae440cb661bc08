use Rattle.std.proofs.Common.{◌≡◌, ◌∙◌, ◌+◌, ◌-◌, List, sym, subst, arith}
use Rattle.pinpointing_specs.specs.Sets.{Limited}
use Rattle.set_questions.proofs.Dropped.{IsSwept, swept_removed}
use Rattle.set_questions.proofs.antichain.drop_outranked.Goals as goal

pub loop-place-preserved-then-outranks : goal.loop-place-preserved-then-outranks
loop-place-preserved-then-outranks c =
    let place = c.loop-place.place in
    let q = place - 1 in
    let next : place ≡ q + 1 = omega (arith, c.loop-place-test.true) in
    let s = c.args.set.now in
    let old = c.args.sets.now.items in
    let before = c.loop-place.invariant in
    record {
      swept = subst (λ (xs : List Limited). IsSwept c.args.kind s old xs q) (sym c.remove.ensures.items)
          (swept_removed c.args.kind s old c.loop-place.sets.items place q next before.swept c.index.result.now
          c.index.ensures (c.outranks.ensures.0 c.if-outranks.true));
      len = omega (arith, before.len, c.remove.ensures.len);
      capacity = c.remove.ensures.capacity ∙ before.capacity;
    }
