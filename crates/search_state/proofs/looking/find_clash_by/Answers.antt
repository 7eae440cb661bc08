use Rattle.std.proofs.Common.{ℕ, subst, sym}
use Rattle.calculus_specs.specs.declared.facts.Fact.{Fact}
use Rattle.calculus_specs.specs.declared.facts.Fact.TheVariants.{Has, Apart, Same}
use Rattle.step_agenda.specs.Trail.{TreeEntries, facts_in}
use Rattle.step_finders.specs.Clashing.{AreLedTo}
use Rattle.search_state.specs.Looking.{IsLookable}
use Rattle.search_state.proofs.looking.find_clash_by.Goals as goal

pub find_clash-requires-clause-above : goal.find_clash-requires-clause-above
find_clash-requires-clause-above g c =
    let w = g.R.Rules.context c.args.rules.now in
    let here : IsLookable w (facts_in c.args.tree.now.entries) (Has c.in-Has.node c.in-Has.concept) =
    subst (λ (f : Fact ℕ). IsLookable w (facts_in c.args.tree.now.entries) f) c.in-Has.is c.requires.lookable in
    subst (λ (t : TreeEntries). AreLedTo w (facts_in t.entries) c.in-Has.node) (sym c.new-state.ensures.tree)
    here.0.above

pub find_clash_of_apart-requires-clause-above : goal.find_clash_of_apart-requires-clause-above
find_clash_of_apart-requires-clause-above g c =
    let w = g.R.Rules.context c.args.rules.now in
    let here : IsLookable w (facts_in c.args.tree.now.entries) (Apart c.in-Apart.first c.in-Apart.second) =
    subst (λ (f : Fact ℕ). IsLookable w (facts_in c.args.tree.now.entries) f) c.in-Apart.is c.requires.lookable in
    subst (λ (t : TreeEntries). AreLedTo w (facts_in t.entries) c.in-Apart.first) (sym c.new-state.ensures.tree)
    here.looked_at.above

pub find_clash_of_join-requires-clause-above : goal.find_clash_of_join-requires-clause-above
find_clash_of_join-requires-clause-above g c =
    let w = g.R.Rules.context c.args.rules.now in
    let here : IsLookable w (facts_in c.args.tree.now.entries) (Same c.in-Same.first c.in-Same.field-1) =
    subst (λ (f : Fact ℕ). IsLookable w (facts_in c.args.tree.now.entries) f) c.in-Same.is c.requires.lookable in
    subst (λ (t : TreeEntries). AreLedTo w (facts_in t.entries) c.in-Same.first) (sym c.new-state.ensures.tree)
    here.above
