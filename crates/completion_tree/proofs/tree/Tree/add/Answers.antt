use Rattle.std.proofs.Common.{List, [], ◌∷◌, ◌++◌, ℕ, sym, ap, ◌∙◌}
use Rattle.calculus_specs.specs.declared.facts.Fact.{Fact}
use Rattle.fact_tree.specs.Facts.{TreeFacts}
use Rattle.completion_tree.specs.declared.tree.Entry.TheVariants.{Fact as Grounded}
use Rattle.completion_tree.specs.Trail.{facts_in}
use Rattle.completion_tree.proofs.Entries.{facts_in-append}
use Rattle.completion_tree.proofs.tree.Tree.add.Goals as goal

pub invariant_of-self-in-Ok : goal.invariant_of-self-in-Ok
invariant_of-self-in-Ok g c =
    let es = c.self.inside.trail in
    let more = Grounded c.args.fact c.args.by ∷ [] in
    let put = c.in-Ok.ensures.put in
    ap (λ (u : TreeFacts). u.facts) c.in_ok-add.ensures.added
    ∙ ap (λ (fs : List (Fact ℕ)). fs ++ c.args.fact ∷ []) c.self.invariant ∙ sym (facts_in-append es more)
    ∙ ap facts_in (sym put)
