use Rattle.std.proofs.Common.{length, take, sym, ap, ◌∙◌, arith}
use Rattle.fact_tree.specs.Facts.{TreeFacts}
use Rattle.completion_tree.specs.Trail.{facts_in}
use Rattle.completion_tree.proofs.Entries.{facts_in-take, length-facts_in-take}
use Rattle.completion_tree.proofs.tree.Tree.back.Goals as goal

pub undo_to-requires : goal.undo_to-requires
undo_to-requires g c =
    let es = c.self.inside.trail in
    omega (
      arith,
      c.count_facts.ensures,
      ap (λ us. length (facts_in us)) c.cut.ensures,
      length-facts_in-take c.args.mark.len es,
      ap length c.self.invariant,
    )

pub invariant_of-self : goal.invariant_of-self
invariant_of-self g c =
    let es = c.self.inside.trail in
    let n = c.args.mark.len in
    ap (λ (u : TreeFacts). u.facts) c.undo_to.ensures
    ∙ (λ i. take ((c.count_facts.ensures ∙ ap (λ us. length (facts_in us)) c.cut.ensures) i) (c.self.invariant i))
    ∙ facts_in-take n es ∙ ap facts_in (sym c.cut.ensures)
