-- The representative of a node is the least node that is joined to it.
use Rattle.std.proofs.Common.{◌≡◌, ℕ, ◌≤◌, ◌&&◌, ◌||◌, min, List, [], ◌∷◌, ◌++◌, Bool, true, false, eqb, refl, ap, ◌∙◌}
use Rattle.std.proofs.Common.{sym, subst, arith, inl, inr, eq-eqb}
use Rattle.std.specs.List.{list_any}
use Rattle.std.proofs.lemmas.List.{append-nil, append_assoc}
use Rattle.std.proofs.lemmas.Bool.{cases_Bool, eqb-true, cases_lt, or_cases, and_parts, or_right}
use Rattle.std.proofs.lemmas.Bool.Decides.{nat_tests}
use Rattle.std.proofs.Math.Bool.{or_comm}
use Rattle.calculus_specs.specs.declared.facts.Fact.{Fact}
use Rattle.calculus_specs.specs.declared.facts.Fact.TheVariants.{Has, Edge, Apart, Same}
use Rattle.calculus_specs.specs.Joins.{merged, rep_after, rep_from, rep, joins, IsJoined}
use Rattle.calculus_specs.specs.Joins.IsJoined.{itself, by_fact}

-- ---- induction at the end of a list

from_front : {X : Type 0} (P : List X → Type 0) → ((xs : List X) (x : X) → P xs → P (xs ++ x ∷ [])) → (xs ys : List X)
    → P xs → P (xs ++ ys)
from_front P step xs [] h = subst P (sym (append-nil xs)) h
from_front P step xs (y ∷ ys) h =
    subst P (append_assoc xs (y ∷ []) ys) (from_front P step (xs ++ y ∷ []) ys (step xs y h))

pub by_last : {X : Type 0} (P : List X → Type 0) → P [] → ((xs : List X) (x : X) → P xs → P (xs ++ x ∷ []))
    → (xs : List X) → P xs
by_last P base step xs = from_front P step [] xs base

-- ---- one fact more

pub rep_from-snoc : {C : Type 0} → (m : ℕ → ℕ) (fs : List (Fact C)) (f : Fact C) (x : ℕ)
    → rep_from m (fs ++ f ∷ []) x ≡ rep_after (rep_from m fs) f x
rep_from-snoc m [] f x = refl
rep_from-snoc m (g ∷ fs) f x = rep_from-snoc (rep_after m g) fs f x

pub rep-snoc : {C : Type 0} → (fs : List (Fact C)) (f : Fact C) (x : ℕ) → rep (fs ++ f ∷ []) x ≡ rep_after (rep fs) f x
rep-snoc fs f x = rep_from-snoc (λ y. y) fs f x

merged-le : (y z x : ℕ) → merged y z x ≤ x
merged-le y z x = grind (arith, nat_tests)

after-le : {C : Type 0} → (m : ℕ → ℕ) (f : Fact C) (x : ℕ) → rep_after m f x ≤ m x
after-le m (Same y z) x = merged-le (m y) (m z) (m x)
after-le m (Has y c) x = omega arith
after-le m (Edge r y z) x = omega arith
after-le m (Apart y z) x = omega arith

-- a representative is not above its node
pub rep-le : {C : Type 0} → (fs : List (Fact C)) (x : ℕ) → rep fs x ≤ x
rep-le {C} = by_last {X = Fact C} (λ fs. (x : ℕ) → rep fs x ≤ x) (λ x. omega arith)
    (λ fs f h x. omega (arith, rep-snoc fs f x, after-le (rep fs) f x, h x))

-- nodes with one representative keep having one
pub after-same : {C : Type 0} → (m : ℕ → ℕ) (f : Fact C) (x y : ℕ) → m x ≡ m y → rep_after m f x ≡ rep_after m f y
after-same m (Same v w) x y e = ap (merged (m v) (m w)) e
after-same m (Has v c) x y e = e
after-same m (Edge r v w) x y e = e
after-same m (Apart v w) x y e = e

merged_ends : (y z : ℕ) → merged y z y ≡ merged y z z
merged_ends y z = grind (arith, nat_tests)

-- the nodes of a joining have one representative after it
after-joins : {C : Type 0} → (m : ℕ → ℕ) (f : Fact C) (y z : ℕ) → joins y z f ≡ true → rep_after m f y ≡ rep_after m f z
after-joins m (Same v w) y z h =
    elim (or_cases (eqb v y && eqb w z) (eqb v z && eqb w y) h) [
      | inl a ↦
          let t = and_parts (eqb v y) (eqb w z) a in
          rw (← eqb-true v y t.0, ← eqb-true w z t.1) (merged_ends (m v) (m w))
      | inr a ↦
          let t = and_parts (eqb v z) (eqb w y) a in
          rw (← eqb-true v z t.0, ← eqb-true w y t.1) (sym (merged_ends (m v) (m w)))
    ]
after-joins m (Has v c) y z h = cc
after-joins m (Edge r v w) y z h = cc
after-joins m (Apart v w) y z h = cc

pub any-snoc : {X : Type 0} (p : X → Bool) (xs : List X) (x : X) → list_any p (xs ++ x ∷ []) ≡ (list_any p xs || p x)
any-snoc p [] x = elim (p x) as (λ b. (b || false) ≡ b) [ true ↦ refl | false ↦ refl ]
any-snoc p (y ∷ xs) x = elim (p y) as (λ b. (b || list_any p (xs ++ x ∷ [])) ≡ ((b || list_any p xs) || p x))
    [ true ↦ refl | false ↦ any-snoc p xs x ]

pub rep-joins : {C : Type 0} → (fs : List (Fact C)) (y z : ℕ) → list_any (joins y z) fs ≡ true → rep fs y ≡ rep fs z
rep-joins {C} =
    by_last {X = Fact C} (λ fs. (y z : ℕ) → list_any (joins y z) fs ≡ true → rep fs y ≡ rep fs z) (λ y z h. cc)
    (λ fs f ih y z h. rep-snoc fs f y
    ∙ (elim (or_cases (list_any (joins y z) fs) (joins y z f) (sym (any-snoc (joins y z) fs f) ∙ h))
    [ inl before ↦ after-same (rep fs) f y z (ih y z before) | inr here ↦ after-joins (rep fs) f y z here ])
    ∙ sym (rep-snoc fs f z))

-- joined nodes have one representative
pub rep-joined : {C : Type 0} → (fs : List (Fact C)) (x y : ℕ) → IsJoined fs x y → rep fs x ≡ rep fs y
rep-joined fs x x' (itself y) = refl
rep-joined fs x x' (by_fact a b c any h) = rep-joined fs a b h ∙ rep-joins fs b c any

-- ---- a node is joined to its representative

pub joined_on : {C : Type 0} → (fs : List (Fact C)) (x y z : ℕ) → IsJoined fs x y → IsJoined fs y z → IsJoined fs x z
joined_on fs x y z h (itself v) = h
joined_on fs x y z h (by_fact a b c any g) = by_fact x b c any (joined_on fs x a b h g)

joins_back : {C : Type 0} → (f : Fact C) (y z : ℕ) → joins y z f ≡ joins z y f
joins_back (Same v w) y z = or_comm (eqb v y && eqb w z) (eqb v z && eqb w y)
joins_back (Has v c) y z = refl
joins_back (Edge r v w) y z = refl
joins_back (Apart v w) y z = refl

any_back : {C : Type 0} → (fs : List (Fact C)) (y z : ℕ) → list_any (joins y z) fs ≡ list_any (joins z y) fs
any_back [] y z = refl
any_back (f ∷ fs) y z = rw (joins_back f y z, any_back fs y z) refl

pub joined_back : {C : Type 0} → (fs : List (Fact C)) (x y : ℕ) → IsJoined fs x y → IsJoined fs y x
joined_back fs x x' (itself y) = itself y
joined_back fs x x' (by_fact a b c any h) =
    joined_on fs c b a (by_fact c c b (sym (any_back fs b c) ∙ any) (itself c)) (joined_back fs a b h)

pub joined_more : {C : Type 0} → (fs : List (Fact C)) (f : Fact C) (x y : ℕ) → IsJoined fs x y
    → IsJoined (fs ++ f ∷ []) x y
joined_more fs f x x' (itself y) = itself y
joined_more fs f x x' (by_fact a b c any h) =
    by_fact a b c (any-snoc (joins b c) fs f ∙ ap (λ (t : Bool). t || joins b c f) any) (joined_more fs f a b h)

-- the two nodes of a joining, after it
ends : {C : Type 0} → (fs : List (Fact C)) (v w : ℕ) → IsJoined (fs ++ Same v w ∷ []) v w
ends fs v w =
    by_fact v v w
    (any-snoc (joins v w) fs (Same v w)
    ∙ ap (λ (t : Bool). list_any (joins v w) fs || t) (rw (eq-eqb v v refl, eq-eqb w w refl) refl)
    ∙ or_right (list_any (joins v w) fs) true refl)
    (itself v)

min_cases : (P : ℕ → Type 0) (a b : ℕ) → P a → P b → P (min a b)
min_cases P a b pa pb = elim (cases_lt a b) [
  | inl lt ↦ subst P (let e : a ≡ min a b = omega arith in e) pa
  | inr ge ↦ subst P (let e : b ≡ min a b = omega arith in e) pb
]

-- after a joining, a node that had either representative has the lesser
step : {C : Type 0} → (fs : List (Fact C)) (v w x : ℕ) → ((y : ℕ) → IsJoined fs y (rep fs y))
    → IsJoined (fs ++ Same v w ∷ []) x (merged (rep fs v) (rep fs w) (rep fs x))
step fs v w x ih =
    let now = fs ++ Same v w ∷ [] in
    let at = λ (y : ℕ). joined_more fs (Same v w) y (rep fs y) (ih y) in
    elim (cases_Bool (eqb (rep fs x) (rep fs v) || eqb (rep fs x) (rep fs w))) [
      | inr out ↦ rw out (at x)
      | inl hit ↦ rw hit
          (elim (or_cases (eqb (rep fs x) (rep fs v)) (eqb (rep fs x) (rep fs w)) hit) [
            | inl a ↦
                let e = eqb-true (rep fs x) (rep fs v) a in
                let x-v : IsJoined now x (rep fs v) = subst (IsJoined now x) e (at x) in
                let x-w : IsJoined now x (rep fs w) =
                joined_on now x v (rep fs w) (joined_on now x (rep fs v) v x-v (joined_back now v (rep fs v) (at v)))
                (joined_on now v w (rep fs w) (ends fs v w) (at w)) in
                min_cases (IsJoined now x) (rep fs v) (rep fs w) x-v x-w
            | inr a ↦
                let e = eqb-true (rep fs x) (rep fs w) a in
                let x-w : IsJoined now x (rep fs w) = subst (IsJoined now x) e (at x) in
                let x-v : IsJoined now x (rep fs v) =
                joined_on now x w (rep fs v) (joined_on now x (rep fs w) w x-w (joined_back now w (rep fs w) (at w)))
                (joined_on now w v (rep fs v) (joined_back now v w (ends fs v w)) (at v)) in
                min_cases (IsJoined now x) (rep fs v) (rep fs w) x-v x-w
          ])
    ]

one_more : {C : Type 0} → (fs : List (Fact C)) (f : Fact C) → ((x : ℕ) → IsJoined fs x (rep fs x)) → (x : ℕ)
    → IsJoined (fs ++ f ∷ []) x (rep_after (rep fs) f x)
one_more fs (Same v w) ih x = step fs v w x ih
one_more fs (Has v c) ih x = joined_more fs (Has v c) x (rep fs x) (ih x)
one_more fs (Edge r v w) ih x = joined_more fs (Edge r v w) x (rep fs x) (ih x)
one_more fs (Apart v w) ih x = joined_more fs (Apart v w) x (rep fs x) (ih x)

pub joined-rep : {C : Type 0} → (fs : List (Fact C)) (x : ℕ) → IsJoined fs x (rep fs x)
joined-rep {C} =
    by_last {X = Fact C} (λ fs. (x : ℕ) → IsJoined fs x (rep fs x)) (λ x. itself x)
    (λ fs f ih x. rw (rep-snoc fs f x) (one_more fs f ih x))

-- the representative is joined to its node, and no node that is joined to it is less
pub rep_is_least : {C : Type 0} → (fs : List (Fact C)) (x : ℕ)
    → IsJoined fs x (rep fs x) × ((y : ℕ) → IsJoined fs x y → rep fs x ≤ y)
rep_is_least fs x = (joined-rep fs x, λ y h. omega (arith, rep-joined fs x y h, rep-le fs y))
