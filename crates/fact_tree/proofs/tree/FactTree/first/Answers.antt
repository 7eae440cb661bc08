use Rattle.std.proofs.Common.{◌≤◌, subst}
use Rattle.calculus_specs.specs.State.{node_count_from}
use Rattle.fact_tree.specs.Facts.{TreeFacts}
use Rattle.fact_tree.specs.Entries.{facts_of}
use Rattle.fact_tree.proofs.Law.{first_within}
use Rattle.fact_tree.proofs.tree.FactTree.first.Goals as goal

pub returns-clause-nodes : goal.returns-clause-nodes
returns-clause-nodes g c =
    let first = c.self.inside.first in
    subst (λ (t : TreeFacts). first ≤ node_count_from t.first t.facts) c.self.view_is
    (first_within first (facts_of c.self.inside.entries.items))
