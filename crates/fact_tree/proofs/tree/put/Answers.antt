use Rattle.std.proofs.Common.{sym, subst}
use Rattle.fact_tree.specs.declared.store.Lengths.{Lengths}
use Rattle.fact_tree.specs.Kept.{Kept}
use Rattle.fact_tree.specs.Entries.{Undoes, lengths_of}
use Rattle.fact_tree.proofs.Growing.{on_err}
use Rattle.fact_tree.proofs.Undone.{after_back}
use Rattle.fact_tree.proofs.tree.put.Goals as goal

pub returns-in_err-push-clause-back : goal.returns-in_err-push-clause-back
returns-in_err-push-clause-back g c =
    let e = c.args.entry in
    on_err _ _
    (subst (λ (u : Lengths). Undoes u c.put.new.self c.args.store.now) (sym c.requires.lengths)
    (subst (λ (k : Kept). Undoes (lengths_of e.lengths.node c.args.store.now) k c.args.store.now)
    (sym c.in_ok-put.ensures.put) (after_back c.args.store.now e.lengths.node c.args.high e.fact c.requires.place)))
