-- Places of numbers in a list, also where it grows.
use Rattle.std.proofs.Common.{◌≡◌, ℕ, suc, ◌+◌, ◌<◌, ◌≤◌, ◌||◌, not, eqb, Bool, true, false, List, [], ◌∷◌, ◌++◌, map}
use Rattle.std.proofs.Common.{length, get_or, refl, ap, sym, ◌∙◌, cond, arith}
use Rattle.std.specs.List.{position_or_len, All}
use Rattle.std.proofs.lemmas.Bool.{eqb-true, eq-eqb, ne_eqb, and_parts, and_from, or_left}
use Rattle.std.proofs.lemmas.List.Folds.{list_any-append}
use Rattle.std.proofs.lemmas.List.Elements.{All-head, All-tail}
use Rattle.closed_search.specs.Numbers.{is_used, are_used, number_in}

pub record IsAt (used : List ℕ) (c : ℕ) : Type 0 where
  pub within : position_or_len (eqb c) used < length used
  pub at : get_or used (position_or_len (eqb c) used) 0 ≡ c

next : (xs : List ℕ) (x k : ℕ) → get_or (x ∷ xs) (1 + k) 0 ≡ get_or xs k 0
next xs x k = let e : 1 + k ≡ suc k = omega arith in ap (λ (j : ℕ). get_or (x ∷ xs) j 0) e

abbrev AtHead : ℕ → ℕ → List ℕ → Bool → Type 0
AtHead c d ds b = (cond (not b) (1 + position_or_len (eqb c) ds) 0 < suc (length ds))
    × (get_or (d ∷ ds) (cond (not b) (1 + position_or_len (eqb c) ds) 0) 0 ≡ c)

pub place_of : (used : List ℕ) (c : ℕ) → is_used used c ≡ true → IsAt used c
place_of [] c h = cc
place_of (d ∷ ds) c h =
    let t = elim (eqb c d) as (λ (b : Bool). eqb c d ≡ b → (b || is_used ds c) ≡ true → AtHead c d ds b) [
      | true ↦ λ e u. (omega arith, sym (eqb-true c d e))
      | false ↦
          λ e u. let p = place_of ds c u in (omega (arith, p.within), next ds d (position_or_len (eqb c) ds) ∙ p.at)
    ] refl h in
    record { within = t.0; at = t.1 }

pub used_stays : (used more : List ℕ) (c : ℕ) → is_used used c ≡ true → is_used (used ++ more) c ≡ true
used_stays used more c h = list_any-append (eqb c) used more ∙ or_left (is_used used c) (is_used more c) h

pub all_used_stay : (used more cs : List ℕ) → are_used used cs ≡ true → are_used (used ++ more) cs ≡ true
all_used_stay used more [] h = refl
all_used_stay used more (c ∷ cs) h =
    let t = and_parts (is_used used c) (are_used used cs) h in
    and_from (is_used (used ++ more) c) (are_used (used ++ more) cs) (used_stays used more c t.0)
    (all_used_stay used more cs t.1)

place_stays : (used more : List ℕ) (c : ℕ) → is_used used c ≡ true
    → position_or_len (eqb c) (used ++ more) ≡ position_or_len (eqb c) used
place_stays [] more c h = cc
place_stays (d ∷ ds) more c h =
    elim (eqb c d) as
    (λ (b : Bool). (b || is_used ds c) ≡ true
    → cond (not b) (1 + position_or_len (eqb c) (ds ++ more)) 0 ≡ cond (not b) (1 + position_or_len (eqb c) ds) 0) [
      | true ↦ λ u. refl
      | false ↦ λ u. ap (λ (k : ℕ). 1 + k) (place_stays ds more c u)
    ] h

pub number_stays : (used more : List ℕ) (c : ℕ) → is_used used c ≡ true → number_in (used ++ more) c ≡ number_in used c
number_stays used more c h = ap (λ (k : ℕ). k + 1) (place_stays used more c h)

pub numbers_stay : (used more cs : List ℕ) → are_used used cs ≡ true
    → map (number_in (used ++ more)) cs ≡ map (number_in used) cs
numbers_stay used more [] h = refl
numbers_stay used more (c ∷ cs) h =
    let t = and_parts (is_used used c) (are_used used cs) h in
    let e = number_stays used more c t.0 in
    let f = numbers_stay used more cs t.1 in
    cc

-- ---- one that is new

last_place : (used : List ℕ) (c : ℕ) → is_used used c ≡ false → position_or_len (eqb c) (used ++ c ∷ []) ≡ length used
last_place [] c h = rw (eq-eqb c c refl) refl
last_place (d ∷ ds) c h =
    elim (eqb c d) as
    (λ (b : Bool). (b || is_used ds c) ≡ false
    → cond (not b) (1 + position_or_len (eqb c) (ds ++ c ∷ [])) 0 ≡ suc (length ds)) [
      | true ↦ λ u. cc
      | false ↦ λ u. omega (arith, last_place ds c u)
    ] h

pub last_number : (used : List ℕ) (c : ℕ) → is_used used c ≡ false → number_in (used ++ c ∷ []) c ≡ length used + 1
last_number used c h = ap (λ (k : ℕ). k + 1) (last_place used c h)

pub last_used : (used : List ℕ) (c : ℕ) → is_used (used ++ c ∷ []) c ≡ true
last_used [] c = rw (eq-eqb c c refl) refl
last_used (d ∷ ds) c =
    elim (eqb c d) as (λ (b : Bool). (b || is_used (ds ++ c ∷ []) c) ≡ true) [ true ↦ refl | false ↦ last_used ds c ]

-- one that is not used is not used where smaller ones come
unused_below : (more : List ℕ) (c bound : ℕ) → All (λ d. d < bound) more → bound ≤ c → is_used more c ≡ false
unused_below [] c bound h le = refl
unused_below (d ∷ ds) c bound h le =
    let lt : d < bound = All-head (λ (e : ℕ). e < bound) d ds h in
    rw (ne_eqb c d (λ e. absurd (omega (arith, e, lt))))
    (unused_below ds c bound (All-tail (λ (e : ℕ). e < bound) d ds h) le)

pub unused_stays : (used more : List ℕ) (c bound : ℕ) → is_used used c ≡ false → All (λ d. d < bound) more → bound ≤ c
    → is_used (used ++ more) c ≡ false
unused_stays used more c bound h below le =
    list_any-append (eqb c) used more ∙ rw (h, unused_below more c bound below le) refl
