use Rattle.std.proofs.Common.{◌+◌, ◌<◌, length, not, ap, sym, ◌∙◌, arith}
use Rattle.std.proofs.lemmas.Bool.{true≢false}
use Rattle.audit_check.specs.Territory.{AreMet}
use Rattle.audit_check.proofs.Found.{met_kept, unmet_at, some_kept}
use Rattle.audit_check.proofs.search.narrowest.Goals as goal

pub loop-place-preserved : goal.loop-place-preserved
loop-place-preserved c =
    let sets = c.args.sets.now in
    let hit = c.args.hit.now in
    let p = c.loop-place.place in
    let read = c.index-sets-place.result in
    let lt : p < length sets = omega arith in
    elim c.if-not-meets.branch [
      | goal.then-not-meets+in_ok-count+then-is_none w ↦
          record {
            none = rw w.narrowest-is tt;
            some =
                rw w.narrowest-is
                (unmet_at sets hit p read lt c.index-sets-place.is
                (λ meet. true≢false (sym (c.meets.ensures.1 meet) ∙ w.if-not-meets.true)));
          }
      | goal.then-not-meets+in_ok-count+else-is_none+else-count-fewest w ↦
          record {
            none =
                rw w.narrowest-is
                (some_kept c.loop-place.narrowest (AreMet sets hit (p + 1))
                (w.is_none.ensures ∙ ap not w.if-is_none.false));
            some = rw w.narrowest-is c.loop-place.invariant.some;
          }
      | goal.else-not-meets w ↦
          record {
            none =
                rw w.narrowest-is
                (met_kept sets hit p read lt c.index-sets-place.is (c.meets.ensures.0 w.if-not-meets.false)
                c.loop-place.narrowest c.loop-place.invariant.none);
            some = rw w.narrowest-is c.loop-place.invariant.some;
          }
    ]
