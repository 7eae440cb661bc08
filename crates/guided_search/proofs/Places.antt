-- Places of lists, and lists of numbers that follow one another.
use Rattle.std.proofs.Common.{◌≡◌, ℕ, zero, suc, ◌+◌, ◌<◌, List, [], ◌∷◌, ◌++◌, length, take, Some, refl, ap, ◌∙◌}
use Rattle.std.proofs.Common.{arith}
use Rattle.std.specs.Prelude.{slice_get}
use Rattle.std.specs.List.{range_with_len}

pub get_longer : {X : Type 0} (xs ys : List X) (n : ℕ) (x : X) → slice_get xs n ≡ Some x
    → slice_get (xs ++ ys) n ≡ Some x
get_longer [] ys n x h = cc
get_longer (y ∷ xs) ys zero x h = h
get_longer (y ∷ xs) ys (suc n) x h = get_longer xs ys n x h

pub take_longer : {X : Type 0} (xs ys : List X) (n : ℕ) (x : X) → slice_get xs n ≡ Some x
    → take n (xs ++ ys) ≡ take n xs
take_longer [] ys n x h = cc
take_longer (y ∷ xs) ys zero x h = refl
take_longer {X} (y ∷ xs) ys (suc n) x h = ap (λ (l : List X). y ∷ l) (take_longer xs ys n x h)

pub get_behind : {X : Type 0} (xs : List X) (x : X) (ys : List X) → slice_get (xs ++ x ∷ ys) (length xs) ≡ Some x
get_behind [] x ys = refl
get_behind (y ∷ xs) x ys = get_behind xs x ys

pub take_front : {X : Type 0} (xs ys : List X) → take (length xs) (xs ++ ys) ≡ xs
take_front [] ys = refl
take_front {X} (x ∷ xs) ys = ap (λ (l : List X). x ∷ l) (take_front xs ys)

-- what stands at a place within a list
pub record Got {X : Type 0} (xs : List X) (n : ℕ) : Type 0 where
  pub it : X
  pub is_there : slice_get xs n ≡ Some it

pub got : {X : Type 0} (xs : List X) (n : ℕ) → n < length xs → Got xs n
got [] n lt = absurd (omega arith)
got (x ∷ xs) zero lt = record { it = x; is_there = refl }
got (x ∷ xs) (suc n) lt = let g = got xs n (omega arith) in record { it = g.it; is_there = g.is_there }

pub range-append : (a n m : ℕ) → range_with_len a (n + m) ≡ range_with_len a n ++ range_with_len (a + n) m
range-append a zero m =
    let e : 0 + m ≡ m = omega arith in
    let f : a ≡ a + 0 = omega arith in
    ap (range_with_len a) e ∙ ap (λ (b : ℕ). range_with_len b m) f
range-append a (suc n) m =
    let e : suc n + m ≡ suc (n + m) = omega arith in
    let f : (a + 1) + n ≡ a + suc n = omega arith in
    ap (range_with_len a) e
    ∙ ap (λ (l : List ℕ). a ∷ l)
    (range-append (a + 1) n m ∙ ap (λ (b : ℕ). range_with_len (a + 1) n ++ range_with_len b m) f)
