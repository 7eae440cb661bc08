use Rattle.std.proofs.Common.{List, sym, ap, subst, ◌∙◌, arith}
use Rattle.fact_tree.specs.declared.tree.Entry.{Entry}
use Rattle.fact_tree.specs.Kept.{kept_of}
use Rattle.fact_tree.specs.Entries.{facts_of, AreEntries, AreFit}
use Rattle.fact_tree.proofs.tree.FactTree.new_in.Goals as goal

pub invariant_of-result : goal.invariant_of-result
invariant_of-result g c =
    let first = c.args.first in
    let none = sym c.new.ensures.items in (
      c.in_ok-new_in.ensures ∙ ap (λ (es : List Entry). kept_of first (facts_of es)) none,
      subst (AreEntries first) none (record { each = λ p d lt. absurd (omega (arith, lt)) }),
      subst (λ (es : List Entry). AreFit first (facts_of es)) none
          (record { each = λ p d lt. absurd (omega (arith, lt)) }),
      c.requires,
    )
