use Rattle.std.proofs.Common.{◌+◌, ◌∙◌, sym, ap, length, arith, drop}
use Rattle.std.proofs.lemmas.List.{drop-set-lt, drop-drop}
use Rattle.lane_sieve.proofs.Blocks.{found_more, found_same}
use Rattle.lane_sieve.specs.Words.{is_subset}
use Rattle.lane_sieve.proofs.lanes.write_covered.Goals as goal
use Rattle.lane_sieve.proofs.lanes.write_covered.Goals.{then-is_covered, else-is_covered}

pub loop-place-preserved : goal.loop-place-preserved
loop-place-preserved c =
    let rows = c.table.view_is in
    let e = ap length rows in
    let here = ap (is_subset c.args.print.now) c.index.ensures in
    elim c.if-is_covered.branch [
      | then-is_covered w ↦
          record {
            within = omega (arith, w.found-is);
            more = omega (arith, w.found-is);
            found_so_far =
                found_more c.args.print.now _ _ _ _ _ _ _ _ rows (omega (arith, e)) (omega (arith, e))
                (sym here ∙ sym c.is_covered.ensures ∙ w.if-is_covered.true) w.out-is w.found-is
                c.loop-place.invariant.found_so_far;
            rest =
                rw (
                  w.out-is,
                  w.found-is,
                  drop-set-lt (c.loop-place.found + 1) c.loop-place.out c.loop-place.found c.loop-place.place
                      (omega arith),
                ) (sym (drop-drop 1 c.loop-place.found c.loop-place.out) ∙ ap (drop 1) c.loop-place.invariant.rest
                ∙ drop-drop 1 c.loop-place.found c.args.out.now);
          }
      | else-is_covered w ↦
          record {
            within = omega (arith, w.found-is);
            more = omega (arith, w.found-is);
            found_so_far =
                found_same c.args.print.now _ _ _ _ _ _ _ _ rows (omega (arith, e))
                (sym here ∙ sym c.is_covered.ensures ∙ w.if-is_covered.false) w.out-is w.found-is
                c.loop-place.invariant.found_so_far;
            rest = rw (w.out-is, w.found-is) c.loop-place.invariant.rest;
          }
    ]
