use Rattle.std.proofs.Common.{◌≡◌, ◌<◌, ◌≤◌, length, sym, subst, ap, ◌∙◌, arith}
use Rattle.std.specs.Prelude.{◌==◌}
use Rattle.std.specs.List.{list_all}
use Rattle.calculus_specs.specs.Joins.{rep}
use Rattle.calculus_specs.specs.State.{node_count_from}
use Rattle.fact_tree.specs.Facts.{TreeFacts}
use Rattle.fact_tree.specs.Kept.{Lists, Kept, kept_of, lists_at}
use Rattle.fact_tree.specs.Entries.{facts_of}
use Rattle.fact_tree.specs.Told.{IsAlone}
use Rattle.fact_tree.proofs.Law.{count_in, kept_linked, count_is, root_is, alone_is, alone_has_no_other}
use Rattle.fact_tree.proofs.Law.{beyond_is_alone}
use Rattle.fact_tree.proofs.tree.FactTree.is_alone.Goals as goal

pub node-requires : goal.node-requires
node-requires g c =
    let first = c.self.inside.first in
    let fs = facts_of c.self.inside.entries.items in
    let links = kept_linked first fs c.self.invariant.2 in
    let at =
    root_is first fs c.self.inside.store c.args.node c.root-root.result c.self.invariant.2 c.self.invariant.0
    c.root-root.ensures.linked c.root-root.ensures.beyond in
    omega (
      arith,
      at,
      links.below c.args.node,
      c.if-node-nodes.false,
      c.nodes.ensures.count,
      ap count_in c.self.view_is,
      count_is first fs c.self.invariant.2,
      ap (λ (k : Kept). length k.nodes) c.self.invariant.0,
    )

pub returns-then-node-nodes-clause-alone : goal.returns-then-node-nodes-clause-alone
returns-then-node-nodes-clause-alone g c one =
    let first = c.self.inside.first in
    let fs = facts_of c.self.inside.entries.items in
    let ge : node_count_from first fs ≤ c.args.node =
    omega (arith, c.if-node-nodes.true, c.nodes.ensures.count, ap count_in c.self.view_is) in
    subst (λ (t : TreeFacts). IsAlone t.facts c.args.node) c.self.view_is
    (beyond_is_alone first fs c.args.node c.self.invariant.2 ge)

pub returns-clause-alone : goal.returns-clause-alone
returns-clause-alone g c one =
    let first = c.self.inside.first in
    let fs = facts_of c.self.inside.entries.items in
    let x = c.args.node in
    let fit = c.self.invariant.2 in
    let lt : x < node_count_from first fs =
    omega (arith, c.if-node-nodes.false, c.nodes.ensures.count, ap count_in c.self.view_is) in
    let at : c.root-root.result ≡ rep fs x =
    root_is first fs c.self.inside.store x c.root-root.result fit c.self.invariant.0 c.root-root.ensures.linked
    c.root-root.ensures.beyond in
    let is : c.node.result.now ≡ lists_at (kept_of first fs) (rep fs x) =
    c.node.ensures ∙ (λ i. lists_at (c.self.invariant.0 i) (at i)) in
    let members : c.members.result.now ≡ (lists_at (kept_of first fs) (rep fs x)).members =
    c.members.ensures ∙ ap (λ (n : Lists). n.members) is in
    let same : list_all (λ v. v == c.root-root.result) c.members.result.now
    ≡ list_all (λ v. v == rep fs x) (lists_at (kept_of first fs) (rep fs x)).members =
    (λ i. list_all (λ v. v == at i) (members i)) in
    subst (λ (t : TreeFacts). IsAlone t.facts x) c.self.view_is
    (alone_is first fs x fit lt (sym same ∙ sym c.has_no_other.ensures ∙ one))

pub returns-clause-joined : goal.returns-clause-joined
returns-clause-joined g c other alone =
    let first = c.self.inside.first in
    let fs = facts_of c.self.inside.entries.items in
    let x = c.args.node in
    let fit = c.self.invariant.2 in
    let lt : x < node_count_from first fs =
    omega (arith, c.if-node-nodes.false, c.nodes.ensures.count, ap count_in c.self.view_is) in
    let at : c.root-root.result ≡ rep fs x =
    root_is first fs c.self.inside.store x c.root-root.result fit c.self.invariant.0 c.root-root.ensures.linked
    c.root-root.ensures.beyond in
    let is : c.node.result.now ≡ lists_at (kept_of first fs) (rep fs x) =
    c.node.ensures ∙ (λ i. lists_at (c.self.invariant.0 i) (at i)) in
    let members : c.members.result.now ≡ (lists_at (kept_of first fs) (rep fs x)).members =
    c.members.ensures ∙ ap (λ (n : Lists). n.members) is in
    let same : list_all (λ v. v == c.root-root.result) c.members.result.now
    ≡ list_all (λ v. v == rep fs x) (lists_at (kept_of first fs) (rep fs x)).members =
    (λ i. list_all (λ v. v == at i) (members i)) in
    let here = subst (λ (t : TreeFacts). IsAlone t.facts x) (sym c.self.view_is) alone in
    absurd (cc (sym other ∙ c.has_no_other.ensures ∙ same ∙ alone_has_no_other first fs x fit lt here))
