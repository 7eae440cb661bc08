use Rattle.std.proofs.Common.{slice_index_or, sym, subst}
use Rattle.calculus_specs.specs.State.{node_count_from}
use Rattle.calculus_specs.specs.declared.facts.Fact.TheVariants.{Has}
use Rattle.tableau_specs.specs.declared.Item.{Item}
use Rattle.tableau_specs.specs.declared.Item.TheVariants.{Fact as Says}
use Rattle.step_agenda.specs.Trail.{TreeEntries, facts_in}
use Rattle.search_state.specs.Beginning.{IsFitItem}
use Rattle.search_state.proofs.GivenTrail.{fit_next}
use Rattle.search_state.proofs.behind.put_items.Goals as goal

pub put_item-requires : goal.put_item-requires
put_item-requires g c =
    let old = c.args.tree.now in
    let items = c.args.items.now in
    let i = c.loop-item.item-index in
    let none : Item = Says (Has 0 0) in
    subst
    (λ (t : TreeEntries). IsFitItem (node_count_from t.first (facts_in t.entries)) (slice_index_or items i none))
    (sym c.loop-item.invariant)
    (fit_next old.first old.entries items c.requires i none c.loop-item-test.true)
