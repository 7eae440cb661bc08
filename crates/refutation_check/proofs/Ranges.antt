-- Nodes that follow each other, taken one by one.
use Rattle.std.proofs.Common.{◌≡◌, ℕ, zero, suc, ◌+◌, ◌-◌, ◌<◌, ◌≢◌, ◌==◌, ◌||◌, Bool, false, List, [], ◌∷◌, ◌++◌, refl}
use Rattle.std.proofs.Common.{ap, ◌∙◌, sym, arith}
use Rattle.std.specs.List.{list_any, range_with_len}
use Rattle.std.proofs.lemmas.Bool.{ne_eqb, or_parts}
use Rattle.std.proofs.lemmas.List.Folds.{list_any-append}
use Rattle.calculus_specs.specs.declared.facts.Fact.TheVariants.{Has, Edge, Apart}
use Rattle.calculus_specs.specs.State.{new_nodes, apart_from, pairwise_apart}

one_more : (count place : ℕ) → place < count → count - place ≡ suc (count - (place + 1))
one_more count place h = omega arith

-- what is left of a list that is made by counting down, where one is done
module _ {A : Type 0} (f : ℕ → ℕ → A) where
  pub left_of : (first place count : ℕ) → place < count
      → f (first + place) (count - place) ≡ f (first + place) (suc (count - (place + 1)))
  left_of first place count h = ap (f (first + place)) (one_more count place h)

pub next_node : (first place count : ℕ) → place < count
    → range_with_len (first + place) (count - place)
    ≡ (first + place) ∷ range_with_len (first + (place + 1)) (count - (place + 1))
next_node first place count h =
    let next : first + place + 1 ≡ first + (place + 1) = omega arith in
    left_of range_with_len first place count h ∙ ap (λ n. (first + place) ∷ range_with_len n (count - (place + 1))) next

pub next_edge : (x s c first place count : ℕ) → place < count
    → new_nodes x s c (first + place) (count - place)
    ≡ Edge s x (first + place) ∷ Has (first + place) c ∷ new_nodes x s c (first + (place + 1)) (count - (place + 1))
next_edge x s c first place count h =
    let next : first + place + 1 ≡ first + (place + 1) = omega arith in
    left_of (new_nodes x s c) first place count h
    ∙ ap (λ n. Edge s x (first + place) ∷ Has (first + place) c ∷ new_nodes x s c n (count - (place + 1))) next

pub next_apart : (y first place count : ℕ) → place < count
    → apart_from {C = ℕ} y (first + place) (count - place)
    ≡ Apart y (first + place) ∷ apart_from y (first + (place + 1)) (count - (place + 1))
next_apart y first place count h =
    let next : first + place + 1 ≡ first + (place + 1) = omega arith in
    left_of (apart_from {C = ℕ} y) first place count h
    ∙ ap (λ n. Apart y (first + place) ∷ apart_from y n (count - (place + 1))) next

pub next_pairs : (first place count : ℕ) → place < count
    → pairwise_apart {C = ℕ} (first + place) (count - place)
    ≡ apart_from (first + place) (first + place + 1) (count - (place + 1))
    ++ pairwise_apart (first + (place + 1)) (count - (place + 1))
next_pairs first place count h =
    let next : first + place + 1 ≡ first + (place + 1) = omega arith in
    left_of (pairwise_apart {C = ℕ}) first place count h
    ∙ ap (λ n. apart_from (first + place) (first + place + 1) (count - (place + 1))
    ++ pairwise_apart n (count - (place + 1)))
    next

-- ---- new nodes

-- none of the n nodes from `first` on is known
abbrev pub are_new : List ℕ → ℕ → ℕ → Bool
are_new nodes first n = list_any (λ z. list_any (λ y. y == z) nodes) (range_with_len first n)

pub new_after : (nodes : List ℕ) (x : ℕ) (n first : ℕ) → x < first → are_new nodes first n ≡ false
    → are_new (nodes ++ x ∷ []) first n ≡ false
new_after nodes x zero first l h = refl
new_after nodes x (suc n) first l h =
    let parts = or_parts (list_any (λ y. y == first) nodes) (are_new nodes (first + 1) n) h in
    let head : list_any (λ y. y == first) nodes ≡ false = parts.0 in
    let ne : x ≢ first = omega arith in
    let here : list_any (λ y. y == first) (nodes ++ x ∷ []) ≡ false =
    list_any-append (λ y. y == first) nodes (x ∷ []) ∙ ap (λ b. b || (x == first || false)) head
    ∙ ap (λ b. b || false) (ne_eqb x first ne) in
    let rest = new_after nodes x n (first + 1) (omega arith) parts.1 in
    ap (λ b. b || are_new (nodes ++ x ∷ []) (first + 1) n) here ∙ rest

-- a branch that knows no node knows none of them
pub none_known : (nodes : List ℕ) → nodes ≡ [] → (first n : ℕ) → are_new nodes first n ≡ false
none_known [] e first zero = refl
none_known [] e first (suc n) = none_known [] e (first + 1) n
none_known (x ∷ xs) e first n = cc

-- where none of the nodes that are left is known, the next is not, nor are the others once it is
pub next_is_new : (nodes : List ℕ) (first place count : ℕ) → place < count
    → are_new nodes (first + place) (count - place) ≡ false → list_any (λ y. y == first + place) nodes ≡ false
next_is_new nodes first place count l h =
    let parts =
    or_parts (list_any (λ y. y == first + place) nodes) (are_new nodes (first + place + 1) (count - (place + 1)))
    (sym (left_of (are_new nodes) first place count l) ∙ h) in
    parts.0

pub new_left : (nodes more : List ℕ) (first place count : ℕ) → more ≡ nodes ++ (first + place) ∷ [] → place < count
    → are_new nodes (first + place) (count - place) ≡ false
    → are_new more (first + (place + 1)) (count - (place + 1)) ≡ false
new_left nodes more first place count e l h =
    let parts =
    or_parts (list_any (λ y. y == first + place) nodes) (are_new nodes (first + place + 1) (count - (place + 1)))
    (sym (left_of (are_new nodes) first place count l) ∙ h) in
    let next : first + place + 1 ≡ first + (place + 1) = omega arith in
    let rest : are_new nodes (first + (place + 1)) (count - (place + 1)) ≡ false =
    ap (λ n. are_new nodes n (count - (place + 1))) (sym next) ∙ parts.1 in
    ap (λ (ns : List ℕ). are_new ns (first + (place + 1)) (count - (place + 1))) e
    ∙ new_after nodes (first + place) (count - (place + 1)) (first + (place + 1)) (omega arith) rest
