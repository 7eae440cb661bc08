use Rattle.std.proofs.Common.{◌≡◌, drop}
use Rattle.ofn_tree.specs.Items.{items_of}
use Rattle.ofn_expressions.specs.Counts.{Grows}
use Rattle.ofn_expressions.specs.Walk.{walked}
use Rattle.ofn_expressions.specs.Individuals.{individuals_tests}
use Rattle.ofn_expressions.proofs.IndividualLists.{IndividualsFrom}
use Rattle.ofn_expressions.proofs.individuals.read_individuals.Given as goal

abbrev pub invariant-loop-item : goal.invariant-loop-item
invariant-loop-item l = record {
  tests : walked l.fn.state.counts (individuals_tests l.prefixes (items_of l.items))
      ≡ walked l.state.counts (individuals_tests l.prefixes (items_of (drop l.item-index l.items)));
  grown : Grows l.fn.state l.state;
  value : IndividualsFrom l.prefixes l.state.counts l.items l.item-index l.individuals;
}
