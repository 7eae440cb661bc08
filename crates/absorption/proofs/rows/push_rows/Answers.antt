use Rattle.std.proofs.Common.{◌≡◌, ◌+◌, ◌<◌, ◌++◌, List, take, length, subst, sym, arith}
use Rattle.std.proofs.lemmas.List.{take_all}
use Rattle.calculus_specs.specs.Rows.{NumberedPart}
use Rattle.row_cache.specs.Parts.{axiom_parts}
use Rattle.row_cache.proofs.Numbers.{extends_twice}
use Rattle.row_cache.specs.Theory.{numbered_parts}
use Rattle.absorption.specs.declared.row.Row.{Row}
use Rattle.absorption.specs.Rows.{AreRowsOf}
use Rattle.absorption.proofs.Listed.{length-numbered_parts, one_part_more}
use Rattle.absorption.proofs.rows.push_rows.Goals as goal

pub loop-place-preserved : goal.loop-place-preserved
loop-place-preserved c =
    let a = c.args.number in
    let qs = axiom_parts c.args.axiom.now in
    let i = c.loop-place.place in
    let before = c.loop-place.concepts in
    let after = c.row_at.new.concepts in
    let lt : i < length qs = omega (arith, c.loop-place-test.true, c.part_count-place-end.ensures) in
    record {
      added =
          λ ns h. subst (λ (l : List Row). AreRowsOf after (ns ++ take (i + 1) (numbered_parts a 1 qs)) l)
          (sym c.in_ok-push.ensures.items)
          (one_part_more before after ns a qs i c.loop-place.rows.items c.in_ok-row.row lt c.row_at.ensures.kept
          (c.loop-place.invariant.added ns h) c.in_ok-row.ensures.row);
      kept = extends_twice c.args.concepts.now before after c.loop-place.invariant.kept c.row_at.ensures.kept;
    }

pub returns-clause-rows : goal.returns-clause-rows
returns-clause-rows c =
    let qs = numbered_parts c.args.number 1 (axiom_parts c.args.axiom.now) in
    let whole : take c.loop-place.place qs ≡ qs =
    take_all c.loop-place.place qs (omega (
      arith,
      c.loop-place-test.false,
      c.part_count-place-end.ensures,
      length-numbered_parts c.args.number 1 (axiom_parts c.args.axiom.now),
    )) in
    record {
      added =
          λ ns h. subst (λ (l : List NumberedPart). AreRowsOf c.loop-place.concepts (ns ++ l) c.loop-place.rows.items)
          whole (c.loop-place.invariant.added ns h);
    }
