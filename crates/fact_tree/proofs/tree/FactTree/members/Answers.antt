use Rattle.std.proofs.Common.{ℕ, ◌≡◌, ◌<◌, length, sym, subst, ap, ◌∙◌, arith, List}
use Rattle.calculus_specs.specs.Joins.{rep}
use Rattle.calculus_specs.specs.State.{node_count_from}
use Rattle.calculus_specs.specs.Listed.{AreJoined}
use Rattle.fact_tree.specs.Facts.{TreeFacts}
use Rattle.fact_tree.specs.Kept.{Lists, Kept, kept_of, lists_at}
use Rattle.fact_tree.specs.Entries.{facts_of}
use Rattle.fact_tree.proofs.Law.{count_in, kept_linked, count_is, root_is, members_are}
use Rattle.fact_tree.proofs.tree.FactTree.members.Goals as goal

pub node-requires : goal.node-requires
node-requires g c =
    let first = c.self.inside.first in
    let fs = facts_of c.self.inside.entries.items in
    let links = kept_linked first fs c.self.invariant.2 in
    let at =
    root_is first fs c.self.inside.store c.args.node c.root.result c.self.invariant.2 c.self.invariant.0
    c.root.ensures.linked c.root.ensures.beyond in
    omega (
      arith,
      at,
      links.below c.args.node,
      c.requires,
      ap count_in c.self.view_is,
      count_is first fs c.self.invariant.2,
      ap (λ (k : Kept). length k.nodes) c.self.invariant.0,
    )

pub returns : goal.returns
returns g c =
    let first = c.self.inside.first in
    let fs = facts_of c.self.inside.entries.items in
    let x = c.args.node in
    let fit = c.self.invariant.2 in
    let lt : x < node_count_from first fs = omega (arith, c.requires, ap count_in c.self.view_is) in
    let at =
    root_is first fs c.self.inside.store x c.root.result fit c.self.invariant.0 c.root.ensures.linked
    c.root.ensures.beyond in
    let is : c.node.result.now ≡ lists_at (kept_of first fs) (rep fs x) =
    c.node.ensures ∙ (λ i. lists_at (c.self.invariant.0 i) (at i)) in
    let members : c.members.result.now ≡ (lists_at (kept_of first fs) (rep fs x)).members =
    c.members.ensures ∙ ap (λ (n : Lists). n.members) is in
    subst (λ (t : TreeFacts). AreJoined t.facts (node_count_from t.first t.facts) x c.members.result.now) c.self.view_is
    (subst (λ (ms : List ℕ). AreJoined fs (node_count_from first fs) x ms) (sym members)
    (members_are first fs x fit lt))
