use Rattle.std.proofs.Common.{arith, ap, ◌∙◌, sym}
use Rattle.std.proofs.lemmas.List.Filters.{FiltersInPlace-more_swap, FiltersInPlace-more_no, FiltersInPlace-all}
use Rattle.search_trace.specs.Lines.{stays}
use Rattle.search_trace.proofs.lines.keep_others.Goals as goal

pub loop-i-preserved : goal.loop-i-preserved
loop-i-preserved c =
    let same = ap (stays c.args.mark) c.index-lines-i.is ∙ sym c.is_kept.ensures in
    elim c.if-is_kept.branch [
      | goal.then-is_kept w ↦
          rw (w.lines-is, w.count-is)
          (FiltersInPlace-more_swap {x = c.index-lines-i.result} c.loop-i.invariant (omega arith)
          (same ∙ w.if-is_kept.true) c.index-lines-i.is w.swap.ensures.by_index)
      | goal.else-is_kept w ↦
          rw (w.lines-is, w.count-is)
          (FiltersInPlace-more_no {x = c.index-lines-i.result} c.loop-i.invariant (omega arith)
          (same ∙ w.if-is_kept.false) c.index-lines-i.is)
    ]

pub returns : goal.returns
returns c = record {
  kept = FiltersInPlace-all c.loop-i.invariant (omega (arith, c.loop-i-test.false));
  within = omega (arith, c.loop-i.invariant.behind, c.loop-i.invariant.within, c.loop-i.invariant.long);
  same = c.loop-i.invariant.long;
}
