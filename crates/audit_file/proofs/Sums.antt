-- Sums of how many sets come after one, up to a bound.
use Rattle.std.proofs.Common.{◌≡◌, ℕ, ◌+◌, ◌-◌, ◌^◌, List, [], ◌∷◌, arith}
use Rattle.std.specs.Prelude.{min}
use Rattle.audit_file.specs.Following.{sets_above, lists_after}

-- one member more is counted
pub counted_on : (n k a : ℕ) (xs : List ℕ) (sets one next all : ℕ) → one ≡ min (sets_above n a) (2 ^ 32 - 1)
    → next ≡ min (sets + one) (2 ^ 32 - 1) → min (sets + lists_after n k (a ∷ xs)) (2 ^ 32 - 1) ≡ all
    → min (next + lists_after n a xs) (2 ^ 32 - 1) ≡ all
counted_on n k a xs sets one next all above sum counted = omega (arith, above, sum, counted)

-- behind the last member
pub counted_last : (n k : ℕ) (sets one last all : ℕ) → one ≡ min (sets_above n k) (2 ^ 32 - 1)
    → last ≡ min (sets + one) (2 ^ 32 - 1) → min (sets + lists_after n k []) (2 ^ 32 - 1) ≡ all → last ≡ all
counted_last n k sets one last all above sum counted = omega (arith, above, sum, counted)
