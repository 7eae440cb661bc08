use Rattle.std.proofs.Common.{length, ap, sym, subst, ◌∙◌, arith, ℕ, ◌<◌, ◌≤◌}
use Rattle.calculus_specs.specs.State.{node_count_from}
use Rattle.fact_tree.specs.Facts.{TreeFacts}
use Rattle.fact_tree.specs.Kept.{Lists, Kept, lists_at}
use Rattle.fact_tree.specs.Entries.{facts_of}
use Rattle.fact_tree.specs.Told.{IsOrigin}
use Rattle.fact_tree.proofs.Law.{count_in, count_is}
use Rattle.fact_tree.proofs.Parents.{origin_is}
use Rattle.fact_tree.proofs.tree.FactTree.origin.Goals as goal

pub node-requires : goal.node-requires
node-requires g c =
    let first = c.self.inside.first in
    let fs = facts_of c.self.inside.entries.items in
    omega (
      arith,
      c.requires,
      ap count_in c.self.view_is,
      count_is first fs c.self.invariant.2,
      ap (λ (k : Kept). length k.nodes) c.self.invariant.0,
    )

pub returns-clause-some : goal.returns-clause-some
returns-clause-some g c =
    let first = c.self.inside.first in
    let fs = facts_of c.self.inside.entries.items in
    let lt : c.args.node < node_count_from first fs = omega (arith, c.requires, ap count_in c.self.view_is) in
    let is =
    c.origin.ensures
    ∙ ap (λ (n : Lists). n.origin) (c.node.ensures ∙ ap (λ (k : Kept). lists_at k c.args.node) c.self.invariant.0) in
    subst (λ (t : TreeFacts). (t.first ≤ c.args.node) × IsOrigin t.first t.facts c.args.node c.origin.result)
    c.self.view_is (
      c.if-node-self.false,
      subst (λ (o : ℕ × ℕ). IsOrigin first fs c.args.node o) (sym is)
          (origin_is first fs c.args.node c.self.invariant.2 c.if-node-self.false lt),
    )
