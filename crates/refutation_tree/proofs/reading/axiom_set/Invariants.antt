use Rattle.std.proofs.Common.{◌≡◌, ◌&&◌, drop, true}
use Rattle.std.specs.Prelude.{nat_lt, nat_le}
use Rattle.std.specs.List.{list_all}
use Rattle.std.specs.FinSet as set
use Rattle.refutation_tree.specs.RefutationText.{with_numbers}
use Rattle.refutation_tree.proofs.reading.axiom_set.Given as goal

abbrev pub invariant-loop-number : goal.invariant-loop-number
invariant-loop-number l = record {
  limit : l.axioms.limit ≡ l.count;
  members : with_numbers (drop l.number-index l.numbers) l.axioms.members ≡ with_numbers l.numbers set.empty;
  within : list_all (λ n. nat_lt 0 n && nat_le n l.count) (drop l.number-index l.numbers) ≡ true;
}
