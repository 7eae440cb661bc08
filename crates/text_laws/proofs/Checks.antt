-- What tests of numbers, of both of two and of all of a list say; and places one behind another.
use Rattle.std.proofs.Common.{◌≡◌, ℕ, zero, suc, ◌+◌, ◌<◌, ◌≤◌, Bool, true, List, [], ◌∷◌, length, get_or, arith}
use Rattle.std.proofs.Common.{nat_lt}
use Rattle.std.specs.Prelude.{nat_le, nat_eq}
use Rattle.std.proofs.lemmas.Bool.{eqb-true, and_parts}
use Rattle.std.proofs.lemmas.Bool.Decides.{nat_tests}
use Rattle.std.specs.List.{list_all}

pub le_true : (m n : ℕ) → m ≤ n → nat_le m n ≡ true
le_true m n h = grind (arith, nat_tests)

pub true_le : (m n : ℕ) → nat_le m n ≡ true → m ≤ n
true_le m n h = grind (arith, nat_tests)

pub lt_true : (m n : ℕ) → m < n → nat_lt m n ≡ true
lt_true m n h = grind (arith, nat_tests)

pub true_lt : (m n : ℕ) → nat_lt m n ≡ true → m < n
true_lt m n h = grind (arith, nat_tests)

pub all_at : (p : List ℕ → Bool) (names : List (List ℕ)) (k : ℕ) → list_all p names ≡ true → k < length names
    → p (get_or names k []) ≡ true
all_at p [] k all less = absurd (omega (arith, less))
all_at p (w ∷ names) zero all less = (and_parts (p w) (list_all p names) all).0
all_at p (w ∷ names) (suc k) all less =
    all_at p names k (and_parts (p w) (list_all p names) all).1 (omega (arith, less))

pub eq_true : (m n : ℕ) → nat_eq m n ≡ true → m ≡ n
eq_true m n h = eqb-true m n h

-- ---- places

pub no_more : (n : ℕ) → n ≡ n + 0
no_more n = omega arith

pub one_further : (n k : ℕ) → n + 1 + k ≡ n + suc k
one_further n k = omega arith
