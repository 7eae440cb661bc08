-- How many pairs of a class are open.
use Rattle.std.proofs.Common.{◌≡◌, ℕ, ◌+◌, ◌<◌, ◌≤◌, not, true, false, sym, subst, arith}
use Rattle.std.proofs.lemmas.Bool.{not-true, not_from_true, not_from_false, false_from_ne_true}
use Rattle.shq_meaning.specs.Below.{count_below}
use Rattle.shq_oracle.proofs.Counting.{count_more}
use Rattle.subsumption.specs.declared.progress.Progress.{Progress}
use Rattle.subsumption.specs.Progress.{is_settled, StaysSettled}

-- how many classes there are such that it is not settled whether x is part of it
abbrev pub open_count : Progress → ℕ → ℕ
open_count p x = count_below (p.known.count + 2) (λ y. not (is_settled p x y))

-- they get fewer as one is settled, and what was settled stays so
pub fewer_open : (old new : Progress) (x y : ℕ) → x < old.known.count + 2 → y < old.known.count + 2
    → new.known.count ≡ old.known.count → StaysSettled old new → is_settled old x y ≡ false → is_settled new x y ≡ true
    → open_count new x < open_count old x
fewer_open old new x y lx ly same stays was is =
    let n = old.known.count + 2 in
    let less : count_below n (λ z. not (is_settled new x z)) + 1 ≤ count_below n (λ z. not (is_settled old x z)) =
    count_more n (λ z. not (is_settled new x z)) (λ z. not (is_settled old x z)) y ly
    (λ z lz h. not_from_false (is_settled old x z) (still_open z lz (not-true (is_settled new x z) h)))
    (not_from_true (is_settled new x y) is) (not_from_false (is_settled old x y) was) in
    subst
    (λ (k : ℕ). count_below (k + 2) (λ z. not (is_settled new x z)) < count_below n (λ z. not (is_settled old x z)))
    (sym same) (omega (arith, less))
  where
    still_open : (z : ℕ) → z < old.known.count + 2 → is_settled new x z ≡ false → is_settled old x z ≡ false
    still_open z lz h =
        false_from_ne_true (is_settled old x z) (λ k. let t : is_settled new x z ≡ true = stays x z lx lz k in cc)
