-- What is left of the numbers from 1 on.
use Rattle.std.proofs.Common.{◌≡◌, ℕ, ◌+◌, ◌<◌, ◌&&◌, ◌||◌, not, Bool, true, false, refl, ap, ◌∙◌, arith}
use Rattle.std.specs.Prelude.{nat_le}
use Rattle.std.specs.FinSet as sets
use Rattle.std.specs.Cmp.{nat_cmp_total}
use Rattle.std.proofs.lemmas.Bool.{and_from, le-leb}
use Rattle.lane_sieve.specs.Sets.{NumberSet}
use Rattle.axiom_sets.specs.Sets.{IsFull}

neither : (a b : Bool) → ((true && not a) && not b) ≡ not (a || b)
neither true b = refl
neither false b = refl

-- a number is left when those of two sets are taken away, unless it is one of these
pub left_open : (size y : ℕ) (all above row : NumberSet) (a b : Bool) → IsFull size all → y < size
    → sets.contains above (y + 1) ≡ a → sets.contains row (y + 1) ≡ b
    → sets.contains (sets.difference (sets.difference all above) row) (y + 1) ≡ not (a || b)
left_open size y all above row a b full lt is_above is_out =
    let here : sets.contains all (y + 1) ≡ true =
    full (y + 1)
    ∙ and_from (nat_le 1 (y + 1)) (nat_le (y + 1) size) (le-leb 1 (y + 1) (omega arith))
    (le-leb (y + 1) size (omega (arith, lt))) in
    sets.contains-difference nat_cmp_total (sets.difference all above) row (y + 1)
    ∙ ap (λ (t : Bool). t && not (sets.contains row (y + 1))) (sets.contains-difference nat_cmp_total all above (y + 1))
    ∙ (λ i. (here i && not (is_above i)) && not (is_out i))
    ∙ neither a b
