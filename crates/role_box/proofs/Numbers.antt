-- The numbers of all axioms.
use Rattle.std.proofs.Common.{◌≡◌, ℕ, ◌≤◌, List, sym, arith, subst}
use Rattle.std.specs.List.{All, range_with_len}
use Rattle.std.proofs.lemmas.List.FromFn.{length-range_with_len, get_or-range_with_len}

-- the numbers from 1 to a count are numbers of axioms
pub numbers_within : (only : List ℕ) (count n : ℕ) → only ≡ range_with_len 1 count → count ≡ n
    → All (λ k. (1 ≤ k) × (k ≤ n)) only
numbers_within only count n are same =
    let P : List ℕ → Type 0 = All (λ k. (1 ≤ k) × (k ≤ n)) in
    subst P (sym are)
    (λ i d h.
    (let within = length-range_with_len 1 count in
    let at = get_or-range_with_len 1 count i d (omega arith) in
    (omega arith, omega arith)))
