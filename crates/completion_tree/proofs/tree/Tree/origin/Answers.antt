use Rattle.std.proofs.Common.{◌≡◌, ◌≤◌, ℕ, List, true, Option, Some, None, subst, ap, sym, ◌∙◌}
use Rattle.std.specs.Prelude.{◌==◌, IfSome}
use Rattle.calculus_specs.specs.declared.facts.Fact.{Fact}
use Rattle.calculus_specs.specs.State.{parent_from, has_edge}
use Rattle.completion_tree.specs.Trail.{TreeEntries, facts_in}
use Rattle.completion_tree.proofs.tree.Tree.origin.Goals as goal

on_some : {T : Type 0} (r : Option T) (P Q : T → Type 0) → ((x : T) → P x → Q x) → IfSome r P → IfSome r Q
on_some (Some x) P Q f h = f x h
on_some None P Q f h = tt

pub returns-clause-some : goal.returns-clause-some
returns-clause-some g c =
    let x = c.args.node in
    let first = ap (λ (t : TreeEntries). t.first) c.self.view_is in
    let facts = c.self.invariant ∙ ap (λ (t : TreeEntries). facts_in t.entries) c.self.view_is in
    on_some c.origin.result _ _
    (λ o h. (
      subst (λ (n : ℕ). n ≤ x) first h.0,
      subst (λ (fs : List (Fact ℕ)). has_edge fs (λ s. s == o.0) o.1 x ≡ true) facts h.1.0,
      sym (λ i. parent_from (first i) (facts i) x) ∙ h.1.1,
    )) c.origin.ensures.some
