use Rattle.std.proofs.Common.{◌≡◌, ◌++◌, drop, length}
use Rattle.ofn_tree.specs.Items.{items_of}
use Rattle.ofn_expressions.specs.Counts.{Counts}
use Rattle.ofn_expressions.specs.Walk.{walked}
use Rattle.ofn_expressions.specs.Classes.{Keeps}
use Rattle.ofn_reader.specs.Axioms.{axioms_tests, axioms_in}
use Rattle.ofn_reader.proofs.axioms.read_axioms.Given as goal

abbrev pub invariant-loop-item : goal.invariant-loop-item
invariant-loop-item l = record {
  tests : walked l.fn.state.counts (axioms_tests l.prefixes (items_of l.items))
      ≡ walked l.state.counts (axioms_tests l.prefixes (items_of (drop l.item-index l.items)));
  whole : length l.state.read ≡ l.state.counts.axioms;
  value : (later : Counts) → Keeps l.state.counts later
      → l.state.read ++ axioms_in l.prefixes later (items_of (drop l.item-index l.items))
      ≡ l.fn.state.read ++ axioms_in l.prefixes later (items_of l.items);
}
