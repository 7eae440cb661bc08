use Rattle.std.proofs.Common.{ℕ, List, subst, sym}
use Rattle.search_state.specs.Trail.{items_of, facts_in}
use Rattle.calculus_specs.specs.declared.facts.Fact.{Fact}
use Rattle.tableau_specs.specs.Items.{facts_of}
use Rattle.search_state.proofs.Entries.{facts-items}
use Rattle.tableau.specs.Seen.{SeenSets, nothing_seen, HasNoted, HasTold}
use Rattle.tableau.proofs.Noted.{over_at_start, seen_at_start, bare_at_start}
use Rattle.tableau.proofs.Told.{told_at_start}
use Rattle.tableau.proofs.search.first_seen.Goals as goal

pub returns-clause-over : goal.returns-clause-over
returns-clause-over g c =
    let table = c.args.rules.now.table in
    let fs = facts_of (items_of c.args.tree.now.entries) in
    over_at_start c.args.at table fs c.args.room c.concept_room-concepts.result c.note.new.self
    (subst (λ (s : SeenSets). HasNoted c.args.at table fs s c.note.new.self) c.in_ok-seen.ensures c.note.ensures.noted)

pub returns-clause-seen : goal.returns-clause-seen
returns-clause-seen g c =
    let table = c.args.rules.now.table in
    let items = items_of c.args.tree.now.entries in
    seen_at_start c.args.at table items c.args.room c.concept_room-concepts.result c.note.new.self
    (subst (λ (s : SeenSets). HasNoted c.args.at table (facts_of items) s c.note.new.self) c.in_ok-seen.ensures
    c.note.ensures.noted)

pub returns-clause-bare : goal.returns-clause-bare
returns-clause-bare g c =
    let table = c.args.rules.now.table in
    let items = items_of c.args.tree.now.entries in
    bare_at_start c.args.at table items c.args.room c.concept_room-concepts.result c.note.new.self
    (subst (λ (s : SeenSets). HasNoted c.args.at table (facts_of items) s c.note.new.self) c.in_ok-seen.ensures
    c.note.ensures.noted)

pub returns-clause-told : goal.returns-clause-told
returns-clause-told g c a b is =
    let table = c.args.rules.now.table in
    let entries = c.args.tree.now.entries in
    let items = items_of entries in
    let first = c.args.tree.now.first in
    told_at_start first c.args.at a b table items c.args.room c.concept_room-concepts.result c.note.new.self is
    (subst (λ (s : SeenSets). HasNoted c.args.at table (facts_of items) s c.note.new.self) c.in_ok-seen.ensures
    c.note.ensures.noted)
    (subst
    (λ (fs : List (Fact ℕ)). HasTold first c.args.at table fs (facts_of items)
    (nothing_seen c.args.room c.concept_room-concepts.result) c.note.new.self)
    (sym (facts-items entries))
    (subst (λ (s : SeenSets). HasTold first c.args.at table (facts_in entries) (facts_of items) s c.note.new.self)
    c.in_ok-seen.ensures c.note.ensures.told))
    c.concept_room-concepts.ensures
