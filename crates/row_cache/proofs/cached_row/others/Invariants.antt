use Rattle.std.proofs.Common.{◌≡◌, ◌+◌, ◌++◌, drop, leb, true}
use Rattle.std.specs.List.{list_all}
use Rattle.refutation_truth.specs.TheoryRows.{is_ascending}
use Rattle.row_cache.specs.Rows.{other_numbers}
use Rattle.row_cache.proofs.cached_row.others.Given as goal

-- what is put is what stands before this place, by the positions that are left
abbrev pub invariant-loop-index : goal.invariant-loop-index
invariant-loop-index l = record {
  same : l.numbers.items ++ other_numbers (l.index + 1) l.rest (drop l.index l.conjuncts)
      ≡ other_numbers 1 l.positions l.conjuncts;
  ascending : is_ascending l.rest ≡ true;
  low : list_all (λ i. leb (l.index + 1) i) l.rest ≡ true;
}
