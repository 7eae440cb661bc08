use Rattle.std.proofs.Common.{sym, arith, Err, inl, inr}
use Rattle.std.proofs.lemmas.Bool.{cases_lt}
use Rattle.std.proofs.lemmas.List.Sorted.{searched}
use Rattle.axiom_sets.proofs.DependencyListed.{no_mark, rises}
use Rattle.axiom_sets.proofs.deps.has_mark.Goals as goal

pub returns-in-Err : goal.returns-in-Err
returns-in-Err c =
    let marks = c.args.marks.now in
    let found = searched marks c.args.mark (Err c.in-Err.field-0) c.in-Err.ensures.position (rises marks c.requires) in
    sym (no_mark marks c.args.mark (λ k lt e. elim (cases_lt k c.in-Err.field-0) [
      | inl before ↦ (let less = found.1 k before in absurd (omega (arith, less, e)))
      | inr behind ↦ (let more = found.2 k behind lt in absurd (omega (arith, more, e)))
    ]))
