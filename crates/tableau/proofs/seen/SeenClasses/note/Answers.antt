use Rattle.std.proofs.Common.{arith}
use Rattle.std.proofs.lemmas.List.{length-map}
use Rattle.search_state.specs.Trail.{items_of, item_of, facts_in}
use Rattle.tableau.specs.Seen.{gives_class, gives_complement}
use Rattle.tableau.proofs.Noting.{notes_one, bare_one}
use Rattle.tableau.proofs.Telling.{told_next, told_all}
use Rattle.tableau.proofs.seen.SeenClasses.note.Goals as goal

pub loop-place-preserved : goal.loop-place-preserved
loop-place-preserved g c =
    let table = (g.R.Rules.context c.args.rules.now).table in
    let items = items_of c.args.tree.now.entries in
    let old = c.args.self.now in
    let was = c.loop-place.self in
    let now = c.note_item.new.self in
    record {
      at_node =
          notes_one (gives_class c.args.at table) items c.args.from c.loop-place.place c.item.result old.at_node
          was.at_node now.at_node c.item.ensures c.loop-place.invariant.at_node c.note_item.ensures.noted.at_node;
      complements =
          notes_one (gives_complement c.args.at table) items c.args.from c.loop-place.place c.item.result
          old.complements was.complements now.complements c.item.ensures c.loop-place.invariant.complements
          c.note_item.ensures.noted.complements;
      bare =
          bare_one c.args.at items c.args.from c.loop-place.place c.item.result old.bare was.bare now.bare
          c.item.ensures c.loop-place.invariant.bare c.note_item.ensures.noted.bare;
      told = λ later rest.
          c.loop-place.invariant.told later
          (told_next c.args.tree.now.first c.args.at table (facts_in c.args.tree.now.entries) items c.loop-place.place
          c.item.result was now later c.item.ensures c.note_item.ensures.told rest);
    }

pub returns-clause-told : goal.returns-clause-told
returns-clause-told g c =
    let table = (g.R.Rules.context c.args.rules.now).table in
    let items = items_of c.args.tree.now.entries in
    let now = c.loop-place.self in
    c.loop-place.invariant.told now
    (told_all c.args.tree.now.first c.args.at table (facts_in c.args.tree.now.entries) items c.loop-place.place now
    (omega (arith, length-map c.args.tree.now.entries item_of)))
