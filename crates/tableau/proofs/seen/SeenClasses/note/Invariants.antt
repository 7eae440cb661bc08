use Rattle.std.specs.Prelude.{drop}
use Rattle.tableau_specs.specs.Items.{facts_of}
use Rattle.search_state.specs.Trail.{items_of, facts_in}
use Rattle.tableau.specs.Seen.{SeenSets, gives_class, gives_complement, HasTold}
use Rattle.tableau.proofs.Noting.{IsNoting, IsBareSoFar}
use Rattle.tableau.proofs.seen.SeenClasses.note.Given as goal

abbrev pub invariant-loop-place : goal.invariant-loop-place
invariant-loop-place g l = record {
  at_node : IsNoting (gives_class l.at (g.R.Rules.context l.rules).table) (items_of l.tree.entries) l.from l.place
      l.fn.self.at_node l.self.at_node;
  complements : IsNoting (gives_complement l.at (g.R.Rules.context l.rules).table) (items_of l.tree.entries) l.from
      l.place l.fn.self.complements l.self.complements;
  bare : IsBareSoFar l.at (items_of l.tree.entries) l.from l.place l.fn.self.bare l.self.bare;
  told : (later : SeenSets)
      → HasTold l.tree.first l.at (g.R.Rules.context l.rules).table (facts_in l.tree.entries)
      (facts_of (drop l.place (items_of l.tree.entries))) l.self later
      → HasTold l.tree.first l.at (g.R.Rules.context l.rules).table (facts_in l.tree.entries)
      (facts_of (drop l.from (items_of l.tree.entries))) l.fn.self later;
}
