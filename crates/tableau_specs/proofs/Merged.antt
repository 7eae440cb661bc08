-- What facts say once two nodes are one.
use Rattle.std.proofs.Common.{◌≡◌, ℕ, ◌+◌, ◌&&◌, ◌||◌, ◌⊎◌, max, eqb, Bool, true, false, List, [], ◌∷◌, ◌++◌, refl, ap}
use Rattle.std.proofs.Common.{◌∙◌, sym, arith, inl, inr, eq-eqb}
use Rattle.std.specs.List.{list_any}
use Rattle.std.proofs.lemmas.Bool.{eqb-true, or_cases, and_parts, or_right}
use Rattle.std.proofs.lemmas.Bool.Decides.{nat_tests}
use Rattle.std.proofs.Math.Bool.{or-false}
use Rattle.calculus_specs.proofs.Bools.{or_exchange}
use Rattle.calculus_specs.specs.declared.facts.Fact.{Fact}
use Rattle.calculus_specs.specs.declared.facts.Fact.TheVariants.{Has, Edge, Apart, Same}
use Rattle.calculus_specs.specs.Joins.{rep, merged}
use Rattle.calculus_specs.specs.State.{node_count_from, gives_concept, gives_edge, gives_apart, has, has_edge}
use Rattle.calculus_specs.specs.State.{are_apart}
use Rattle.tableau_specs.proofs.TreeShaped.{reps-snoc}
use Rattle.tableau_specs.proofs.After.{any-snoc}

-- ---- numbers

pub out_stays : (b c p : ℕ) → (eqb p b || eqb p c) ≡ false → merged b c p ≡ p
out_stays b c p out = rw out refl

-- from a number that is neither, others differ as before
pub out_eq : (b c q a : ℕ) → (eqb a b || eqb a c) ≡ false → eqb (merged b c q) (merged b c a) ≡ eqb q a
out_eq b c q a out = grind (arith, nat_tests)

pub same_stays : (b c q a : ℕ) → eqb q a ≡ true → eqb (merged b c q) (merged b c a) ≡ true
same_stays b c q a h = eq-eqb (merged b c q) (merged b c a) (ap (merged b c) (eqb-true q a h))

-- what is merged was one of the two
pub in_either : (b c q : ℕ) → eqb (merged b c q) (merged b c b) ≡ true → (eqb q b || eqb q c) ≡ true
in_either b c q h = grind (arith, nat_tests)

pub in_same : (b c p : ℕ) → (eqb p b || eqb p c) ≡ true → merged b c p ≡ merged b c b
in_same b c p h = grind (arith, nat_tests)

-- ---- lists of facts

pub any_mono : {X : Type 0} (p q : X → Bool) → ((x : X) → p x ≡ true → q x ≡ true) → (xs : List X)
    → list_any p xs ≡ true → list_any q xs ≡ true
any_mono p q imp [] h = cc
any_mono p q imp (x ∷ xs) h = elim (or_cases (p x) (list_any p xs) h) [
  | inl here ↦ rw (imp x here) refl
  | inr later ↦ or_right (q x) (list_any q xs) (any_mono p q imp xs later)
]

pub any_split : {X : Type 0} (p q r : X → Bool) → ((x : X) → p x ≡ true → (q x || r x) ≡ true) → (xs : List X)
    → list_any p xs ≡ true → (list_any q xs || list_any r xs) ≡ true
any_split p q r imp [] h = cc
any_split p q r imp (x ∷ xs) h =
    or_exchange (q x) (list_any q xs) (r x) (list_any r xs) ∙ elim (or_cases (p x) (list_any p xs) h) [
      | inl here ↦ rw (imp x here) refl
      | inr later ↦ or_right (q x || r x) (list_any q xs || list_any r xs) (any_split p q r imp xs later)
    ]

-- ---- two nodes become one

count : (first : ℕ) (gs : List (Fact ℕ)) (y z : ℕ)
    → node_count_from first (gs ++ Same y z ∷ []) ≡ node_count_from first gs
count first [] y z = refl
count first (Edge r v w ∷ gs) y z = ap (max (w + 1)) (count first gs y z)
count first (Has v d ∷ gs) y z = count first gs y z
count first (Apart v w ∷ gs) y z = count first gs y z
count first (Same v w ∷ gs) y z = count first gs y z

module _ (fs : List (Fact ℕ)) (y z : ℕ) where
  abbrev joined : List (Fact ℕ)
  joined = fs ++ Same y z ∷ []

  abbrev m : ℕ → ℕ
  m = rep fs

  abbrev M : ℕ → ℕ
  M v = merged (m y) (m z) (m v)

  abbrev pub is_in : ℕ → Bool
  is_in v = eqb (m v) (m y) || eqb (m v) (m z)

  reps : rep joined ≡ M
  reps = reps-snoc fs (Same y z)

  pub count-join : (first : ℕ) → node_count_from first joined ≡ node_count_from first fs
  count-join first = count first fs y z

  joined_has : (v e : ℕ) → has joined v e ≡ (eqb e 0 || list_any (gives_concept (λ d. eqb d e) M (M v)) fs)
  joined_has v e =
      ap (λ (r : ℕ → ℕ). eqb e 0 || list_any (gives_concept (λ d. eqb d e) r (r v)) joined) reps
      ∙ ap (λ (b : Bool). eqb e 0 || b)
      (any-snoc (gives_concept (λ d. eqb d e) M (M v)) fs (Same y z)
      ∙ or-false (list_any (gives_concept (λ d. eqb d e) M (M v)) fs))

  joined_edge : (roles : ℕ → Bool) (v w : ℕ) → has_edge joined roles v w ≡ list_any (gives_edge roles M (M v) (M w)) fs
  joined_edge roles v w =
      ap (λ (r : ℕ → ℕ). list_any (gives_edge roles r (r v) (r w)) joined) reps
      ∙ any-snoc (gives_edge roles M (M v) (M w)) fs (Same y z)
      ∙ or-false (list_any (gives_edge roles M (M v) (M w)) fs)

  joined_apart : (v w : ℕ) → are_apart joined v w ≡ list_any (gives_apart M (M v) (M w)) fs
  joined_apart v w =
      ap (λ (r : ℕ → ℕ). list_any (gives_apart r (r v) (r w)) joined) reps
      ∙ any-snoc (gives_apart M (M v) (M w)) fs (Same y z) ∙ or-false (list_any (gives_apart M (M v) (M w)) fs)

  -- ---- away from the two nothing changes

  pub out_rep : (v : ℕ) → is_in v ≡ false → rep joined v ≡ rep fs v
  out_rep v out = ap (λ (r : ℕ → ℕ). r v) reps ∙ out_stays (m y) (m z) (m v) out

  like_concept : (kind : ℕ → Bool) (v : ℕ) → is_in v ≡ false → (f : Fact ℕ)
      → gives_concept kind M (M v) f ≡ gives_concept kind m (m v) f
  like_concept kind v out (Has u d) = ap (λ (b : Bool). b && kind d) (out_eq (m y) (m z) (m u) (m v) out)
  like_concept kind v out (Edge r u w) = refl
  like_concept kind v out (Apart u w) = refl
  like_concept kind v out (Same u w) = refl

  pub out_has : (v e : ℕ) → is_in v ≡ false → has joined v e ≡ has fs v e
  out_has v e out =
      joined_has v e
      ∙ ap (λ (p : Fact ℕ → Bool). eqb e 0 || list_any p fs) (λ i f. like_concept (λ d. eqb d e) v out f i)

  like_edge : (roles : ℕ → Bool) (v w : ℕ) → is_in v ≡ false → is_in w ≡ false → (f : Fact ℕ)
      → gives_edge roles M (M v) (M w) f ≡ gives_edge roles m (m v) (m w) f
  like_edge roles v w out out' (Edge r u t) =
      λ i. roles r && out_eq (m y) (m z) (m u) (m v) out i && out_eq (m y) (m z) (m t) (m w) out' i
  like_edge roles v w out out' (Has u d) = refl
  like_edge roles v w out out' (Apart u t) = refl
  like_edge roles v w out out' (Same u t) = refl

  pub out_edge : (roles : ℕ → Bool) (v w : ℕ) → is_in v ≡ false → is_in w ≡ false
      → has_edge joined roles v w ≡ has_edge fs roles v w
  out_edge roles v w out out' =
      joined_edge roles v w ∙ ap (λ (p : Fact ℕ → Bool). list_any p fs) (λ i f. like_edge roles v w out out' f i)

  like_apart : (v w : ℕ) → is_in v ≡ false → is_in w ≡ false → (f : Fact ℕ)
      → gives_apart M (M v) (M w) f ≡ gives_apart m (m v) (m w) f
  like_apart v w out out' (Apart u t) = λ i.
      (out_eq (m y) (m z) (m u) (m v) out i && out_eq (m y) (m z) (m t) (m w) out' i)
      || (out_eq (m y) (m z) (m u) (m w) out' i && out_eq (m y) (m z) (m t) (m v) out i)
  like_apart v w out out' (Has u d) = refl
  like_apart v w out out' (Edge r u t) = refl
  like_apart v w out out' (Same u t) = refl

  pub out_apart : (v w : ℕ) → is_in v ≡ false → is_in w ≡ false → are_apart joined v w ≡ are_apart fs v w
  out_apart v w out out' =
      joined_apart v w ∙ ap (λ (p : Fact ℕ → Bool). list_any p fs) (λ i f. like_apart v w out out' f i)

  -- ---- what holds goes on to hold

  stays_concept : (kind : ℕ → Bool) (v : ℕ) (f : Fact ℕ) → gives_concept kind m (m v) f ≡ true
      → gives_concept kind M (M v) f ≡ true
  stays_concept kind v (Has u d) h =
      let t = and_parts (eqb (m u) (m v)) (kind d) h in rw (same_stays (m y) (m z) (m u) (m v) t.0, t.1) refl
  stays_concept kind v (Edge r u w) h = cc
  stays_concept kind v (Apart u w) h = cc
  stays_concept kind v (Same u w) h = cc

  pub has_stays : (v e : ℕ) → has fs v e ≡ true → has joined v e ≡ true
  has_stays v e h = joined_has v e ∙ elim (or_cases (eqb e 0) (list_any (gives_concept (λ d. eqb d e) m (m v)) fs) h) [
    | inl zero' ↦ rw zero' refl
    | inr given ↦
        or_right (eqb e 0) (list_any (gives_concept (λ d. eqb d e) M (M v)) fs)
        (any_mono (gives_concept (λ d. eqb d e) m (m v)) (gives_concept (λ d. eqb d e) M (M v))
        (stays_concept (λ d. eqb d e) v) fs given)
  ]

  stays_edge : (roles : ℕ → Bool) (v w : ℕ) (f : Fact ℕ) → gives_edge roles m (m v) (m w) f ≡ true
      → gives_edge roles M (M v) (M w) f ≡ true
  stays_edge roles v w (Edge r u t) h =
      let a = and_parts (roles r && eqb (m u) (m v)) (eqb (m t) (m w)) h in
      let b = and_parts (roles r) (eqb (m u) (m v)) a.0 in
      rw (b.0, same_stays (m y) (m z) (m u) (m v) b.1, same_stays (m y) (m z) (m t) (m w) a.1) refl
  stays_edge roles v w (Has u d) h = cc
  stays_edge roles v w (Apart u t) h = cc
  stays_edge roles v w (Same u t) h = cc

  pub edge_stays : (roles : ℕ → Bool) (v w : ℕ) → has_edge fs roles v w ≡ true → has_edge joined roles v w ≡ true
  edge_stays roles v w h =
      joined_edge roles v w
      ∙ any_mono (gives_edge roles m (m v) (m w)) (gives_edge roles M (M v) (M w)) (stays_edge roles v w) fs h

  -- ---- the node that the two are

  pub in_rep : (v : ℕ) → is_in v ≡ true → rep joined v ≡ rep joined y
  in_rep v h = ap (λ (r : ℕ → ℕ). r v) reps ∙ in_same (m y) (m z) (m v) h ∙ sym (ap (λ (r : ℕ → ℕ). r y) reps)

  either_concept : (kind : ℕ → Bool) (f : Fact ℕ) → gives_concept kind M (M y) f ≡ true
      → (gives_concept kind m (m y) f || gives_concept kind m (m z) f) ≡ true
  either_concept kind (Has u d) h =
      let t = and_parts (eqb (M u) (M y)) (kind d) h in
      elim (or_cases (eqb (m u) (m y)) (eqb (m u) (m z)) (in_either (m y) (m z) (m u) t.0)) [
        | inl a ↦ rw (a, t.1) refl
        | inr a ↦ or_right (eqb (m u) (m y) && kind d) (eqb (m u) (m z) && kind d) (rw (a, t.1) refl)
      ]
  either_concept kind (Edge r u w) h = cc
  either_concept kind (Apart u w) h = cc
  either_concept kind (Same u w) h = cc

  -- what it has, one of the two had
  pub had : (e : ℕ) → has joined y e ≡ true → (has fs y e ≡ true) ⊎ (has fs z e ≡ true)
  had e h = elim (or_cases (eqb e 0) (list_any (gives_concept (λ d. eqb d e) M (M y)) fs) (sym (joined_has y e) ∙ h)) [
    | inl zero' ↦ inl (rw zero' refl)
    | inr given ↦
        elim (or_cases (list_any (gives_concept (λ d. eqb d e) m (m y)) fs)
        (list_any (gives_concept (λ d. eqb d e) m (m z)) fs)
        (any_split (gives_concept (λ d. eqb d e) M (M y)) (gives_concept (λ d. eqb d e) m (m y))
        (gives_concept (λ d. eqb d e) m (m z)) (either_concept (λ d. eqb d e)) fs given)) [
          | inl a ↦ inl (or_right (eqb e 0) (list_any (gives_concept (λ d. eqb d e) m (m y)) fs) a)
          | inr a ↦ inr (or_right (eqb e 0) (list_any (gives_concept (λ d. eqb d e) m (m z)) fs) a)
        ]
  ]
