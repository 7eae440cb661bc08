use Rattle.std.proofs.Common.{map, take}
use Rattle.refutation_truth.specs.Normal.{negated_form}
use Rattle.refutation_truth.specs.Tree.{tree_of}
use Rattle.refutation_truth.specs.Numbers.{Extends, AreNumbers}
use Rattle.row_cache.proofs.cached_row.complements.Given as goal

abbrev pub invariant-loop-part : goal.invariant-loop-part
invariant-loop-part l = record {
  are : AreNumbers l.concepts l.numbers.items
      (map (λ c. negated_form (tree_of l.fn.concepts c)) (take l.part-index l.parts));
  kept : Extends l.fn.concepts l.concepts;
}
