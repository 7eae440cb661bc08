-- Words in a vector.
use Rattle.std.proofs.Common.{◌≡◌, ℕ, ◌/◌, ◌%◌, false, eqb, List, ◌++◌, length, get_or, take, drop, sym, ap, ◌∙◌, arith}
use Rattle.std.proofs.Common.{inl, inr}
use Rattle.std.specs.Prelude.{replicate}
use Rattle.std.specs.Int.{bit_at}
use Rattle.std.specs.Ordering.{nat_cmp}
use Rattle.std.specs.FinSet as sets
use Rattle.std.proofs.lemmas.Bool.{cases_lt}
use Rattle.std.proofs.lemmas.List.{append-nil, drop_all, take_all, get_or_past, get_or-replicate, length-replicate}
use Rattle.std.proofs.lemmas.Nat.Bits.{bit_at-zero}
use Rattle.lane_sieve.specs.Sets.{has_bit, number_set}
use Rattle.lane_sieve.proofs.Bits.{has_bit-is, number_set_same}

-- what a vector of n words holds once ws are written over all of its words xs
pub whole_back : (n : ℕ) (ws xs : List ℕ) → length ws ≡ length xs → n ≡ length xs
    → take n (ws ++ drop (length ws) xs) ≡ ws
whole_back n ws xs e e' =
    ap (λ (ys : List ℕ). take n (ws ++ ys)) (drop_all (length ws) xs (omega arith)) ∙ ap (take n) (append-nil ws)
    ∙ take_all n ws (omega arith)

-- words of zeros have no bit
pub has_bit-zeros : (n k : ℕ) → has_bit (replicate n 0) k ≡ false
has_bit-zeros n k =
    let z : get_or (replicate n 0) (k / 64) 0 ≡ 0 = elim (cases_lt (k / 64) n) [
      | inl lt ↦ get_or-replicate n (k / 64) 0 0 lt
      | inr ge ↦ get_or_past (replicate n 0) (k / 64) 0 (omega (arith, length-replicate {A = ℕ} n 0))
    ] in
    has_bit-is (replicate n 0) k ∙ ap (λ (w : ℕ). eqb (bit_at w (k % 64)) 1) z
    ∙ ap (λ (b : ℕ). eqb b 1) (bit_at-zero (k % 64))

pub number_set-zeros : (n : ℕ) → number_set (replicate n 0) ≡ sets.empty
number_set-zeros n =
    number_set_same (replicate n 0) sets.empty (λ k. has_bit-zeros n k ∙ sym (sets.contains-empty nat_cmp k))
