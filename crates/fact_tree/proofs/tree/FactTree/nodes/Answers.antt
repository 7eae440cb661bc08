use Rattle.std.proofs.Common.{length, ap, subst, ◌∙◌}
use Rattle.calculus_specs.specs.State.{HaveParentsBefore}
use Rattle.fact_tree.specs.Facts.{TreeFacts}
use Rattle.fact_tree.specs.Kept.{Kept}
use Rattle.fact_tree.proofs.Law.{count_in, count_is}
use Rattle.fact_tree.proofs.Parents.{parents_before}
use Rattle.fact_tree.proofs.tree.FactTree.nodes.Goals as goal

pub returns-clause-count : goal.returns-clause-count
returns-clause-count g c =
    c.count.ensures.count ∙ ap (λ (k : Kept). length k.nodes) c.self.invariant.0
    ∙ count_is c.self.inside.first _ c.self.invariant.2 ∙ ap count_in c.self.view_is

pub returns-clause-parents : goal.returns-clause-parents
returns-clause-parents g c =
    subst (λ (t : TreeFacts). HaveParentsBefore t.first t.facts) c.self.view_is
    (parents_before c.self.inside.first _ c.self.invariant.2)
