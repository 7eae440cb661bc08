use Rattle.std.proofs.Common.{◌≡◌, ◌<◌, length, sym, subst, ap, ◌∙◌, arith}
use Rattle.calculus_specs.specs.Joins.{rep}
use Rattle.calculus_specs.specs.State.{node_count_from}
use Rattle.fact_tree.specs.Facts.{TreeFacts}
use Rattle.fact_tree.specs.Kept.{Lists, Kept, kept_of, lists_at}
use Rattle.fact_tree.specs.Entries.{facts_of}
use Rattle.calculus_specs.specs.Listed.{IsLabel, IsOnce, AreEdges}
use Rattle.fact_tree.specs.Told.{AreAparts}
use Rattle.fact_tree.proofs.Law.{count_in, kept_linked, count_is, root_is}
use Rattle.fact_tree.proofs.Distinct.{kept_once}
use Rattle.fact_tree.proofs.Reading.{label_is, edges_are, aparts_are}
use Rattle.fact_tree.proofs.tree.FactTree.lists.Goals as goal

pub node-requires : goal.node-requires
node-requires g c =
    let first = c.self.inside.first in
    let fs = facts_of c.self.inside.entries.items in
    let links = kept_linked first fs c.self.invariant.2 in
    let at =
    root_is first fs c.self.inside.store c.args.node c.root.result c.self.invariant.2 c.self.invariant.0
    c.root.ensures.linked c.root.ensures.beyond in
    omega (
      arith,
      at,
      links.below c.args.node,
      c.requires,
      ap count_in c.self.view_is,
      count_is first fs c.self.invariant.2,
      ap (λ (k : Kept). length k.nodes) c.self.invariant.0,
    )

pub returns : goal.returns
returns g c =
    let first = c.self.inside.first in
    let fs = facts_of c.self.inside.entries.items in
    let fit = c.self.invariant.2 in
    let links = kept_linked first fs fit in
    let lt : c.args.node < node_count_from first fs = omega (arith, c.requires, ap count_in c.self.view_is) in
    let at =
    root_is first fs c.self.inside.store c.args.node c.root.result fit c.self.invariant.0 c.root.ensures.linked
    c.root.ensures.beyond in
    let is : c.node.result.now ≡ lists_at (kept_of first fs) (rep fs c.args.node) =
    c.node.ensures ∙ (λ i. lists_at (c.self.invariant.0 i) (at i)) in
    record {
      label =
          subst (λ (t : TreeFacts). IsLabel t.facts c.args.node c.node.result.now.concepts) c.self.view_is
          (subst (λ (n : Lists). IsLabel fs c.args.node n.concepts) (sym is) (label_is first fs c.args.node fit lt));
      once = subst (λ (n : Lists). IsOnce n.concepts) (sym is)
          (kept_once first fs (rep fs c.args.node) (omega (arith, lt, links.below c.args.node, count_is first fs fit)));
      edges =
          subst (λ (t : TreeFacts). AreEdges t.facts c.args.node c.node.result.now.edges) c.self.view_is
          (subst (λ (n : Lists). AreEdges fs c.args.node n.edges) (sym is) (edges_are first fs c.args.node fit lt));
      aparts =
          subst (λ (t : TreeFacts). AreAparts t.facts c.args.node c.node.result.now.aparts) c.self.view_is
          (subst (λ (n : Lists). AreAparts fs c.args.node n.aparts) (sym is) (aparts_are first fs c.args.node fit lt));
    }
