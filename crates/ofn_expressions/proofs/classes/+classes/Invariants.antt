use Rattle.std.proofs.Common.{◌≡◌, ◌*◌, ◌+◌, drop}
use Rattle.ofn_tree.specs.Items.{items_of, nesting, nesting_all}
use Rattle.ofn_expressions.specs.Counts.{Grows}
use Rattle.ofn_expressions.specs.Walk.{walked}
use Rattle.ofn_expressions.specs.Classes.{joined, each_class}
use Rattle.ofn_expressions.proofs.Lists.{MeanFrom}
use Rattle.ofn_expressions.proofs.classes.+classes.Given as goal

abbrev pub decreases-read_class : goal.decreases-read_class
decreases-read_class l = 8 * nesting l.tree.now + 1

abbrev pub decreases-read_boxed : goal.decreases-read_boxed
decreases-read_boxed l = 8 * nesting l.tree.now + 2

abbrev pub decreases-read_group : goal.decreases-read_group
decreases-read_group l = 8 * nesting_all (items_of l.items.now) + 6

abbrev pub decreases-read_operands : goal.decreases-read_operands
decreases-read_operands l = 8 * nesting_all (items_of l.items.now) + 5

abbrev pub decreases-read_restriction : goal.decreases-read_restriction
decreases-read_restriction l = 8 * nesting l.filler.now + 3

abbrev pub decreases-read_cardinality : goal.decreases-read_cardinality
decreases-read_cardinality l = 8 * nesting_all (items_of l.filler.now) + 4

abbrev pub decreases-read_filler : goal.decreases-read_filler
decreases-read_filler l = 8 * nesting_all (items_of l.items.now) + 3

abbrev pub decreases-read_operand_list : goal.decreases-read_operand_list
decreases-read_operand_list l = 8 * nesting_all (items_of l.items.now) + 3

abbrev pub invariant-read_operand_list-loop-item : goal.invariant-read_operand_list-loop-item
invariant-read_operand_list-loop-item l = record {
  tests : walked l.fn.state.counts (joined (each_class l.prefixes (items_of l.items)))
      ≡ walked l.state.counts (joined (each_class l.prefixes (items_of (drop l.item-index l.items))));
  grown : Grows l.fn.state l.state;
  value : MeanFrom l.prefixes l.state.counts l.items l.item-index l.concepts.items;
}
