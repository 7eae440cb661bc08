use Rattle.std.proofs.Common.{ℕ, ◌+◌, drop, ap, sym, ◌∙◌, arith}
use Rattle.calculus_specs.specs.Joins.{rep}
use Rattle.calculus_specs.specs.State.{node_count_from}
use Rattle.completion_tree.specs.Trail.{facts_in}
use Rattle.blocking.specs.Changed.{least_touched}
use Rattle.blocking.proofs.Touched.{touched_next, trail_left, none_left}
use Rattle.blocking.proofs.changed.least_changed.Goals as goal

pub loop-at-preserved : goal.loop-at-preserved
loop-at-preserved g c =
    let es = c.args.tree.now.entries in
    let m = rep (facts_in es) in
    ap (λ (k : ℕ). least_touched c.args.tree.now.first m k (facts_in (drop (c.loop-at.at + 1) es)))
    c.least_with_item-least.ensures
    ∙ sym (touched_next c.args.tree.now.first m c.loop-at.least es c.loop-at.at c.item.result c.item.ensures)
    ∙ c.loop-at.invariant

pub returns-clause-leaves : goal.returns-clause-leaves
returns-clause-leaves g c =
    let es = c.args.tree.now.entries in
    let m = rep (facts_in es) in
    trail_left c.args.tree.now.first es c.args.place (node_count_from c.args.tree.now.first (facts_in es))
    c.loop-at.least
    (sym (none_left c.args.tree.now.first m c.loop-at.least es c.loop-at.at
    (omega (arith, c.loop-at-test.false, c.len-at-end.ensures)))
    ∙ c.loop-at.invariant)
