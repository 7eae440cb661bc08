-- Lists of which each member, or each pair of members, has a property.
use Rattle.std.proofs.Common.{◌≡◌, suc, ◌+◌, Bool, true, List, [], ◌∷◌, ◌++◌, map, arith, inl, inr}
use Rattle.std.specs.Prelude.{All}
use Rattle.std.specs.List.{list_any, list_all, AllPairs}
use Rattle.std.proofs.lemmas.Bool.{and_parts, or_cases}
use Rattle.std.proofs.lemmas.List.Elements.{All-nil, All-cons, All-head, All-tail}

pub record Found {X : Type 0} (p : X → Bool) (Q : X → Type 0) : Type 0 where
  pub it : X
  pub passes : p it ≡ true
  pub has : Q it

-- where one passes the test and all have the property, one has both
pub found : {X : Type 0} (p : X → Bool) (Q : X → Type 0) (xs : List X) → list_any p xs ≡ true → All Q xs → Found p Q
found p Q [] h all = cc
found p Q (x ∷ xs) h all = elim (or_cases (p x) (list_any p xs) h) [
  | inl here ↦ record { it = x; passes = here; has = All-head Q x xs all }
  | inr later ↦ found p Q xs later (All-tail Q x xs all)
]

-- what passes the test has the property
pub each_has : {X : Type 0} (p : X → Bool) (Q : X → Type 0) → ((x : X) → p x ≡ true → Q x) → (xs : List X)
    → list_all p xs ≡ true → All Q xs
each_has p Q each [] h = All-nil Q
each_has p Q each (x ∷ xs) h =
    let b = and_parts (p x) (list_all p xs) h in All-cons Q x xs (each x b.0) (each_has p Q each xs b.1)

pub all_split : {X : Type 0} (P : X → Type 0) (xs ys : List X) → All P (xs ++ ys) → All P xs × All P ys
all_split P [] ys h = (All-nil P, h)
all_split P (x ∷ xs) ys h =
    let rest = all_split P xs ys (All-tail P x (xs ++ ys) h) in
    (All-cons P x xs (All-head P x (xs ++ ys) h) rest.0, rest.1)

pub all_mapped : {X Y : Type 0} (P : Y → Type 0) (f : X → Y) (xs : List X) → All P (map f xs) → All (λ x. P (f x)) xs
all_mapped P f [] h = All-nil (λ x. P (f x))
all_mapped P f (x ∷ xs) h =
    All-cons (λ x. P (f x)) x xs (All-head P (f x) (map f xs) h)
    (all_mapped P f xs (All-tail P (f x) (map f xs) h))

pub pairs_head : {X : Type 0} (R : X → X → Type 0) (x : X) (xs : List X) → AllPairs R (x ∷ xs) → All (R x) xs
pairs_head R x xs h k d lt = h 0 (suc k) d (omega arith) (omega arith)

pub pairs_tail : {X : Type 0} (R : X → X → Type 0) (x : X) (xs : List X) → AllPairs R (x ∷ xs) → AllPairs R xs
pairs_tail R x xs h i j d before within = h (suc i) (suc j) d (omega arith) (omega arith)

pub no_pairs : {X : Type 0} (R : X → X → Type 0) → AllPairs R []
no_pairs R i j d before within = absurd (omega arith)
