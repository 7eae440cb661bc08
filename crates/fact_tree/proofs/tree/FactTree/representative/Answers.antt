use Rattle.std.proofs.Common.{ap, ◌∙◌}
use Rattle.calculus_specs.specs.Joins.{rep}
use Rattle.fact_tree.specs.Facts.{TreeFacts}
use Rattle.fact_tree.specs.Entries.{facts_of}
use Rattle.fact_tree.proofs.Law.{root_is}
use Rattle.fact_tree.proofs.tree.FactTree.representative.Goals as goal

pub returns : goal.returns
returns g c =
    root_is c.self.inside.first (facts_of c.self.inside.entries.items) c.self.inside.store c.args.node c.root.result
    c.self.invariant.2 c.self.invariant.0 c.root.ensures.linked c.root.ensures.beyond
    ∙ ap (λ (t : TreeFacts). rep t.facts c.args.node) c.self.view_is
