use Rattle.std.proofs.Common.{◌≡◌, drop}
use Rattle.ofn_tree.specs.Items.{items_of}
use Rattle.ofn_expressions.specs.Counts.{Grows}
use Rattle.ofn_expressions.specs.Walk.{walked}
use Rattle.ofn_expressions.specs.Classes.{joined, each_class}
use Rattle.ofn_expressions.proofs.Lists.{MeanFrom}
use Rattle.ofn_expressions.proofs.classes.read_classes.Given as goal

abbrev pub invariant-loop-item : goal.invariant-loop-item
invariant-loop-item l = record {
  tests : walked l.fn.state.counts (joined (each_class l.prefixes (items_of l.items)))
      ≡ walked l.state.counts (joined (each_class l.prefixes (items_of (drop l.item-index l.items))));
  grown : Grows l.fn.state l.state;
  value : MeanFrom l.prefixes l.state.counts l.items l.item-index l.concepts;
}
