use Rattle.std.proofs.Common.{◌≡◌, ◌∙◌, ap, reverse, subst, sym}
use Rattle.std.specs.Prelude.{[], ◌∷◌, ◌++◌}
use Rattle.calculus_specs.specs.declared.facts.Fact.TheVariants.{Has}
use Rattle.step_agenda.specs.Entry.TheVariants.{Fact as Grounded}
use Rattle.step_agenda.specs.Trail.{TreeEntries, facts_in}
use Rattle.step_agenda.specs.Followed.{AreFirstBlocks, no_prints}
use Rattle.search_state.specs.Beginning.{by_start, begun_entries, given_entries}
use Rattle.search_state.proofs.GivenTrail.{rest_fits, goes_behind}
use Rattle.search_state.proofs.progress.Progress.behind_in.Goals as goal

pub put_items-requires : goal.put_items-requires
put_items-requires g c =
    let w = g.R.Rules.context c.args.rules.now in
    let at = c.args.at in
    let sub = c.args.sub in
    let not_sup = c.args.not_sup in
    let t = c.put_start-2.new.tree in
    let are : t ≡ record { first = c.first.result; entries = begun_entries at sub not_sup } =
    c.in_ok-put_start-2.ensures
    ∙ ap
    (λ (k : TreeEntries). record { first = k.first; entries = k.entries ++ Grounded (Has at not_sup) by_start ∷ [] })
    (c.in_ok-put_start.ensures
    ∙ ap (λ (k : TreeEntries). record { first = k.first; entries = k.entries ++ Grounded (Has at sub) by_start ∷ [] })
    c.in_ok-tree.ensures) in
    rest_fits w at sub not_sup c.args.steps c.args.rest.now c.requires.asked.at_first c.requires.reached t.first
    (ap (λ (k : TreeEntries). k.first) are ∙ c.first.ensures) t.entries (ap (λ (k : TreeEntries). k.entries) are)

pub complete-requires : goal.complete-requires
complete-requires g c =
    let t = c.put_items.new.tree in
    subst (AreFirstBlocks t.first (facts_in t.entries)) (sym c.new-found_blocks.ensures)
    (c.blocks_stay.ensures.none t.first (facts_in t.entries) no_prints)

pub returns-clause-behind : goal.returns-clause-behind
returns-clause-behind g c =
    let w = g.R.Rules.context c.args.rules.now in
    let at = c.args.at in
    let sub = c.args.sub in
    let not_sup = c.args.not_sup in
    let t = c.put_items.new.tree in
    let are : t
    ≡ record { first = c.first.result; entries = begun_entries at sub not_sup ++ given_entries c.args.rest.now } =
    c.in_ok-put_items.ensures
    ∙ ap (λ (k : TreeEntries). record { first = k.first; entries = k.entries ++ given_entries c.args.rest.now })
    (c.in_ok-put_start-2.ensures
    ∙ ap
    (λ (k : TreeEntries). record { first = k.first; entries = k.entries ++ Grounded (Has at not_sup) by_start ∷ [] })
    (c.in_ok-put_start.ensures
    ∙ ap (λ (k : TreeEntries). record { first = k.first; entries = k.entries ++ Grounded (Has at sub) by_start ∷ [] })
    c.in_ok-tree.ensures)) in
    goes_behind w c.args.query.now at sub not_sup c.args.steps c.args.rest.now c.requires.asked c.requires.reached
    c.requires.clear t.first
    (ap (λ (k : TreeEntries). k.first) are ∙ c.first.ensures) t.entries (ap (λ (k : TreeEntries). k.entries) are)
    c.complete.new.self c.in_ok-complete.ensures.current
    c.in_ok-complete.ensures.first c.new.result c.new.ensures (reverse c.new-2.result.items)
    (ap reverse c.new-2.ensures.items)
