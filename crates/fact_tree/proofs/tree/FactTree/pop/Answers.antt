use Rattle.std.proofs.Common.{◌+◌, ◌-◌, ◌≡◌, length, take, get_or, sym, subst, ap, ◌∙◌, arith, List}
use Rattle.fact_tree.specs.declared.tree.Entry.{Entry}
use Rattle.fact_tree.specs.Facts.{TreeFacts}
use Rattle.fact_tree.specs.Kept.{kept_of}
use Rattle.fact_tree.specs.Entries.{undone, facts_of, AreEntries, AreFit}
use Rattle.fact_tree.proofs.Entries.{first_fit, first_entries, last_back, facts-take, facts-length}
use Rattle.fact_tree.proofs.tree.FactTree.pop.Goals as goal

pub invariant_of-self : goal.invariant_of-self
invariant_of-self g c =
    let first = c.self.inside.first in
    let es = c.self.inside.entries.items in
    let last = c.len-last.result - 1 in
    let e : Entry = c.index.result.now in
    let at : last + 1 ≡ length es = omega
    (arith, c.requires, ap (λ (t : TreeFacts). length t.facts) c.self.view_is, facts-length es, c.len-last.ensures) in
    let kept : take last es ≡ c.truncate.new.self.items = sym c.truncate.ensures.items in
    let back = (last_back first es last e at c.self.invariant.1).back in
    let store =
    c.undo.ensures ∙ ap (λ (x : Entry). undone x.lengths c.self.inside.store) c.index.ensures
    ∙ ap (undone (get_or es last e).lengths) c.self.invariant.0 ∙ back in (
      store ∙ ap (λ (us : List Entry). kept_of first (facts_of us)) kept,
      subst (AreEntries first) kept (first_entries first last es (omega (arith, at)) c.self.invariant.1),
      subst (λ (us : List Entry). AreFit first (facts_of us)) kept
          (subst (AreFit first) (facts-take last es) (first_fit first last (facts_of es) c.self.invariant.2)),
      c.self.invariant.3,
    )
