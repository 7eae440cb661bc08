-- Numbers that fit 32 bits.
use Rattle.std.proofs.Common.{◌≡◌, ℕ, ◌<◌, ◌^◌, suc, nat_lt, true, List, [], ◌∷◌, get_or, refl}
use Rattle.std.specs.List.{list_all}
use Rattle.std.proofs.lemmas.Bool.{and_from, lt-ltb}

pub all_small : (ns : List ℕ) → ((i : ℕ) → get_or ns i 0 < 2 ^ 32) → list_all (λ n. nat_lt n (2 ^ 32)) ns ≡ true
all_small [] h = refl
all_small (n ∷ ns) h =
    and_from (nat_lt n (2 ^ 32)) (list_all (λ m. nat_lt m (2 ^ 32)) ns) (lt-ltb n (2 ^ 32) (h 0))
    (all_small ns (λ i. h (suc i)))
