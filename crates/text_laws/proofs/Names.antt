-- Lists of names of which one stands in front of the other.
use Rattle.std.proofs.Common.{◌≡◌, ◌≤◌, List, [], ◌∷◌, length, take, refl, ◌∙◌, arith}

pub front : {A : Type 0} (xs ys zs : List A) → take (length xs) ys ≡ xs → take (length ys) zs ≡ ys
    → take (length xs) zs ≡ xs
front [] ys zs a b = refl
front (x ∷ xs) [] zs a b = let clash : [] ≡ x ∷ xs = a in absurd (cc clash)
front (x ∷ xs) (y ∷ ys) [] a b = let clash : [] ≡ y ∷ ys = b in absurd (cc clash)
front (x ∷ xs) (y ∷ ys) (z ∷ zs) a b =
    let head_a : y ≡ x = cc a in
    let tail_a : take (length xs) ys ≡ xs = cc a in
    let head_b : z ≡ y = cc b in
    let tail_b : take (length ys) zs ≡ ys = cc b in
    let rest : take (length xs) zs ≡ xs = front xs ys zs tail_a tail_b in
    λ i. (head_b ∙ head_a) i ∷ rest i

pub no_longer : {A : Type 0} (xs ys : List A) → take (length xs) ys ≡ xs → length xs ≤ length ys
no_longer [] ys first = omega arith
no_longer (x ∷ xs) [] first = let clash : [] ≡ x ∷ xs = first in absurd (cc clash)
no_longer (x ∷ xs) (y ∷ ys) first =
    let rest : take (length xs) ys ≡ xs = cc first in omega (arith, no_longer xs ys rest)
