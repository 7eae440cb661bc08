use Rattle.std.proofs.Common.{ℕ, ap, ◌∙◌}
use Rattle.std.specs.Prelude.{◌==◌}
use Rattle.std.specs.List.{list_any}
use Rattle.calculus_specs.specs.Joins.{rep}
use Rattle.fact_tree.specs.Told.{gives_first}
use Rattle.fact_tree.proofs.Growing.{take_whole}
use Rattle.fact_tree.proofs.tree.FactTree.names_apart.Goals as goal

pub returns : goal.returns
returns g c =
    let fs = c.args.self.now.facts in
    let zs = c.aparts-other-items.result.now in
    c.loop-other.invariant
    ∙ ap (list_any (λ (z : ℕ). rep fs z == c.representative-root.result))
    (take_whole c.loop-other.other-index zs c.loop-other-test.false ∙ c.aparts-other-items.ensures)
    ∙ c.lists.ensures.aparts c.representative-root.result
    ∙ ap (λ (b : ℕ). list_any (gives_first (rep fs) (rep fs c.args.first) b) fs) c.representative-root.ensures
