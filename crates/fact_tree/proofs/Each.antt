-- Lists with one value at several places.
use Rattle.std.proofs.Common.{◌≡◌, ℕ, ◌+◌, ◌<◌, ◌≢◌, Bool, true, false, List, [], ◌∷◌, length, drop, get_or, add-one}
use Rattle.std.proofs.Common.{drop-cons, slice_index_or, refl, ap, sym, ◌∙◌, arith, inl, inr, get_or-set_same}
use Rattle.std.proofs.Common.{get_or-set_other}
use Rattle.std.specs.Prelude.{◌==◌, ◌||◌, ◌⊎◌, slice_set}
use Rattle.std.proofs.lemmas.Bool.{cases_Bool, cases_eq, eq-eqb, ne_eqb}
use Rattle.std.proofs.lemmas.List.{length-set}
use Rattle.std.proofs.lemmas.Grind.{same_number_lists}
use Rattle.fact_tree.specs.Kept.{set_each}
use Rattle.fact_tree.specs.Entries.{is_in}

pub length-set_each : (ps : List ℕ) (v : ℕ) (xs : List ℕ) → length (set_each ps v xs) ≡ length xs
length-set_each [] v xs = refl
length-set_each (p ∷ ps) v xs = length-set_each ps v (slice_set xs p v) ∙ length-set xs p v

rest_lacks : (p x : ℕ) (b : Bool) → (p == x || b) ≡ false → b ≡ false
rest_lacks p x b h = by (p == x) h
  where
    by : (a : Bool) → (a || b) ≡ false → b ≡ false
    by true e = cc
    by false e = e

other_first : (p x : ℕ) (b : Bool) → (p == x || b) ≡ false → x ≢ p
other_first p x b h e = cc (h, eq-eqb p x (sym e))

pub set_each-other : (ps : List ℕ) (v : ℕ) (xs : List ℕ) (x d : ℕ) → is_in x ps ≡ false
    → get_or (set_each ps v xs) x d ≡ get_or xs x d
set_each-other [] v xs x d h = refl
set_each-other (p ∷ ps) v xs x d h =
    set_each-other ps v (slice_set xs p v) x d (rest_lacks p x (is_in x ps) h)
    ∙ get_or-set_other xs p x v d (other_first p x (is_in x ps) h)

pub set_each-in : (ps : List ℕ) (v : ℕ) (xs : List ℕ) (x d : ℕ) → x < length xs → is_in x ps ≡ true
    → get_or (set_each ps v xs) x d ≡ v
set_each-in [] v xs x d lt h = cc
set_each-in (p ∷ ps) v xs x d lt h = elim (cases_Bool (is_in x ps)) [
  | inl later ↦ set_each-in ps v (slice_set xs p v) x d (omega (arith, lt, length-set xs p v)) later
  | inr none ↦ set_each-other ps v (slice_set xs p v) x d none ∙ here (cases_eq p x) none
]
  where
    here : (p ≡ x) ⊎ (p ≢ x) → is_in x ps ≡ false → get_or (slice_set xs p v) x d ≡ v
    here (inl same) none = ap (λ (n : ℕ). get_or (slice_set xs n v) x d) same ∙ get_or-set_same xs x v d lt
    here (inr other) none = cc (h, none, ne_eqb p x other)

-- what was there is put again
pub put_back : (ps : List ℕ) (v w : ℕ) (xs : List ℕ) → ((x : ℕ) → is_in x ps ≡ true → get_or xs x 0 ≡ w)
    → set_each ps w (set_each ps v xs) ≡ xs
put_back ps v w xs own =
    let inner = length-set_each ps v xs in
    let len = length-set_each ps w (set_each ps v xs) in
    same_number_lists (set_each ps w (set_each ps v xs)) xs (len ∙ inner)
    (λ x lt. elim (cases_Bool (is_in x ps)) [
      | inl there ↦ set_each-in ps w (set_each ps v xs) x 0 (omega (arith, lt, len)) there ∙ sym (own x there)
      | inr none ↦ set_each-other ps w (set_each ps v xs) x 0 none ∙ set_each-other ps v xs x 0 none
    ])

-- the places from the i-th on
pub set_each_step : (ps : List ℕ) (i v : ℕ) (xs : List ℕ) → i < length ps
    → set_each (drop i ps) v xs ≡ set_each (drop (i + 1) ps) v (slice_set xs (slice_index_or ps i 0) v)
set_each_step ps i v xs lt = rw (add-one, drop-cons ps i 0) refl
