use Rattle.std.proofs.Common.{◌∙◌, sym, ap, length, arith}
use Rattle.std.proofs.lemmas.List.{length-take-le, take_all}
use Rattle.lane_sieve.specs.Columns.{AreFirsts}
use Rattle.lane_sieve.specs.Words.{places}
use Rattle.lane_sieve.proofs.Columns.{drop_further, firsts-length, skip_block}
use Rattle.lane_sieve.proofs.lanes.candidates.Goals as goal
use Rattle.lane_sieve.proofs.lanes.candidates.Goals.{then-not-is_part_of_none_at, else-not-is_part_of_none_at}

pub write_covered-found-requires-clause-within : goal.write_covered-found-requires-clause-within
write_covered-found-requires-clause-within c = omega
    (arith, firsts-length _ _ c.table.invariant.1, ap length c.as_slice-firsts.ensures.value, ap length c.table.view_is)

pub loop-at-preserved : goal.loop-at-preserved
loop-at-preserved c =
    let beside : AreFirsts c.as_slice-firsts.result.now c.args.table.now =
    rw (c.as_slice-firsts.ensures.value, sym c.table.view_is) c.table.invariant.1 in
    elim c.if-not-is_part_of_none_at.branch [
      | then-not-is_part_of_none_at w ↦
          record {
            within = omega arith;
            few = omega (arith, w.found-is, w.write_covered-found.ensures.count);
            found_so_far = rw (w.out-is, w.found-is) w.write_covered-found.ensures.found;
            rest =
                rw (w.out-is, w.found-is)
                (w.write_covered-found.ensures.rest
                ∙ drop_further _ _ c.loop-at.out c.args.out.now w.write_covered-found.ensures.more
                c.loop-at.invariant.rest);
          }
      | else-not-is_part_of_none_at w ↦
          let skip =
          skip_block c.loop-at.at c.args.print _ _ (omega arith) beside
          (sym c.is_part_of_none_at.ensures ∙ w.if-not-is_part_of_none_at.false) in
          record {
            within = omega arith;
            few = omega (arith, w.found-is);
            found_so_far = rw (w.out-is, w.found-is) (c.loop-at.invariant.found_so_far ∙ sym skip);
            rest = rw (w.out-is, w.found-is) c.loop-at.invariant.rest;
          }
    ]

pub write_covered-requires-clause-within : goal.write_covered-requires-clause-within
write_covered-requires-clause-within c = omega
    (arith, firsts-length _ _ c.table.invariant.1, ap length c.as_slice-firsts.ensures.value, ap length c.table.view_is)

pub returns-clause-count : goal.returns-clause-count
returns-clause-count c =
    let long = ap length c.as_slice-firsts.ensures.value in
    let same = firsts-length _ _ c.table.invariant.1 in
    let rows = ap length c.table.view_is in
    let whole = take_all (length c.as_slice-firsts.result.now) c.args.table.now (omega (arith, long, same, rows)) in
    sym (length-take-le c.write_covered.result c.write_covered.new.out
    (omega (arith, long, same, rows, c.write_covered.ensures.count, c.requires)))
    ∙ ap length (c.write_covered.ensures.found ∙ ap (places 0 c.args.print) whole)

pub returns-clause-found : goal.returns-clause-found
returns-clause-found c =
    let whole = take_all (length c.as_slice-firsts.result.now) c.args.table.now (omega (
      arith,
      firsts-length _ _ c.table.invariant.1,
      ap length c.as_slice-firsts.ensures.value,
      ap length c.table.view_is,
    )) in
    c.write_covered.ensures.found ∙ ap (places 0 c.args.print) whole

pub returns-clause-rest : goal.returns-clause-rest
returns-clause-rest c =
    c.write_covered.ensures.rest
    ∙ drop_further _ _ c.loop-at.out c.args.out.now c.write_covered.ensures.more c.loop-at.invariant.rest
