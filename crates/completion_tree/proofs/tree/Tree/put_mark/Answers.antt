use Rattle.std.proofs.Common.{[], ◌∷◌, sym, ap, ◌∙◌}
use Rattle.std.proofs.lemmas.List.{append-nil}
use Rattle.completion_tree.specs.declared.tree.Entry.TheVariants.{Mark}
use Rattle.completion_tree.specs.Trail.{facts_in}
use Rattle.completion_tree.proofs.Entries.{facts_in-append}
use Rattle.completion_tree.proofs.tree.Tree.put_mark.Goals as goal

pub invariant_of-self-2 : goal.invariant_of-self-2
invariant_of-self-2 g c =
    let es = c.self.inside.trail in
    let more = Mark c.args.choice ∷ [] in
    let put = c.in_ok-push.ensures.put in
    c.self.invariant ∙ sym (append-nil (facts_in es)) ∙ sym (facts_in-append es more) ∙ ap facts_in (sym put)
