-- Lists of names in which no name stands twice.
use Rattle.std.proofs.Common.{◌≡◌, ℕ, zero, suc, ◌+◌, ◌<◌, ◌≤◌, Bool, true, false, not, ◌||◌, cond, List, [], ◌∷◌, ◌++◌}
use Rattle.std.proofs.Common.{length, take, position, Option, Some, None, refl, ap, sym, ◌∙◌, arith, length-append, inl}
use Rattle.std.proofs.Common.{inr, ◌⊎◌}
use Rattle.std.specs.Prelude.{slice_get, nat_lt}
use Rattle.std.specs.List.{prefix_len, list_any}
use Rattle.std.specs.Str.{bytes_eq}
use Rattle.std.proofs.lemmas.Slice.Eq.{bytes_eq-Decides}
use Rattle.std.proofs.lemmas.Option.{slice_get_within}
use Rattle.std.proofs.lemmas.Bool.{cases_lt}
use Rattle.std.proofs.lemmas.Bool.Decides.{nat_tests}
use Rattle.shq_terms.specs.Names.{with_at, with_name}
use Rattle.shq_terms.specs.Distinct.{AreDistinct}
use Rattle.shq_terms.proofs.Position.{list_any-none}

-- ---- the first of a list

length_taken : (n : ℕ) (names : List (List ℕ)) → length (take n names) ≤ length names
length_taken zero names = omega arith
length_taken (suc n) [] = omega arith
length_taken (suc n) (x ∷ xs) = omega (arith, length_taken n xs)

get_taken : (n : ℕ) (names : List (List ℕ)) (i : ℕ) → i < length (take n names)
    → slice_get (take n names) i ≡ slice_get names i
get_taken zero names i less = absurd (omega arith)
get_taken (suc n) [] i less = refl
get_taken (suc n) (x ∷ xs) zero less = refl
get_taken (suc n) (x ∷ xs) (suc i) less = get_taken n xs i (omega arith)

pub taken_distinct : (n : ℕ) (names : List (List ℕ)) → AreDistinct names → AreDistinct (take n names)
taken_distinct n names distinct =
    let short = length_taken n names in
    record {
      same_place =
          λ i j i_in j_in same. distinct.same_place i j (omega arith) (omega arith)
          (sym (get_taken n names i i_in) ∙ same ∙ get_taken n names j j_in);
    }

-- ---- one name more

get_before : (names : List (List ℕ)) (w : List ℕ) (i : ℕ) → i < length names
    → slice_get (names ++ w ∷ []) i ≡ slice_get names i
get_before [] w i less = absurd (omega arith)
get_before (x ∷ xs) w zero less = refl
get_before (x ∷ xs) w (suc i) less = get_before xs w i (omega arith)

get_last : (names : List (List ℕ)) (w : List ℕ) → slice_get (names ++ w ∷ []) (length names) ≡ Some w
get_last [] w = refl
get_last (x ∷ xs) w = get_last xs w

found_any : (names : List (List ℕ)) (w : List ℕ) (i : ℕ) → slice_get names i ≡ Some w
    → list_any (bytes_eq w) names ≡ true
found_any [] w i at = cc
found_any (x ∷ xs) w zero at =
    let same : w ≡ x = cc in
    let equal : bytes_eq w x ≡ true = (bytes_eq-Decides w x).1 same in
    ap (λ b. b || list_any (bytes_eq w) xs) equal
found_any (x ∷ xs) w (suc i) at = by (bytes_eq w x) (found_any xs w i at)
  where
    by : (b : Bool) → list_any (bytes_eq w) xs ≡ true → (b || list_any (bytes_eq w) xs) ≡ true
    by true h = refl
    by false h = h

absent : (names : List (List ℕ)) (w : List ℕ) (i : ℕ) → position (bytes_eq w) names ≡ None → slice_get names i ≡ Some w
    → ⊥
absent names w i none at =
    let clash : true ≡ false = sym (found_any names w i at) ∙ list_any-none (bytes_eq w) names none in absurd (cc clash)

before_or_last : (i n : ℕ) → i < n + 1 → (i < n) ⊎ (i ≡ n)
before_or_last i n less = elim (cases_lt i n) [ inl lt ↦ inl lt | inr past ↦ inr (omega arith) ]

module _ (names : List (List ℕ)) (w : List ℕ) (none : position (bytes_eq w) names ≡ None)
    (distinct : AreDistinct names) where
  last : (k : ℕ) → k ≡ length names → slice_get (names ++ w ∷ []) k ≡ Some w
  last k is = ap (slice_get (names ++ w ∷ [])) is ∙ get_last names w

  one_place : (i j : ℕ) → slice_get (names ++ w ∷ []) i ≡ slice_get (names ++ w ∷ []) j
      → (i < length names) ⊎ (i ≡ length names) → (j < length names) ⊎ (j ≡ length names) → i ≡ j
  one_place i j same (inl p) (inl q) =
      distinct.same_place i j p q (sym (get_before names w i p) ∙ same ∙ get_before names w j q)
  one_place i j same (inl p) (inr q) = absurd (absent names w i none (sym (get_before names w i p) ∙ same ∙ last j q))
  one_place i j same (inr p) (inl q) =
      absurd (absent names w j none (sym (get_before names w j q) ∙ sym same ∙ last i p))
  one_place i j same (inr p) (inr q) = p ∙ sym q

  pub pushed_distinct : AreDistinct (names ++ w ∷ [])
  pushed_distinct =
      let long : length (names ++ w ∷ []) ≡ length names + 1 = length-append names (w ∷ []) in
      record {
        same_place =
            λ i j i_in j_in same. one_place i j same (before_or_last i (length names) (omega arith))
            (before_or_last j (length names) (omega arith));
      }

pub with_name_distinct : (names : List (List ℕ)) (w : List ℕ) → AreDistinct names → AreDistinct (with_name names w)
with_name_distinct names w distinct = by (position (bytes_eq w) names) refl
  where
    by : (r : Option ℕ) → position (bytes_eq w) names ≡ r → AreDistinct (with_at r names w)
    by (Some k) is = distinct
    by None is = pushed_distinct names w is distinct

-- ---- the place of a name

one_more : (k : ℕ) → 1 + k ≡ suc k
one_more k = omega arith

first_at : (names : List (List ℕ)) (w : List ℕ) (k : ℕ) → slice_get names k ≡ Some w
    → ((i : ℕ) → i < k → slice_get names i ≡ Some w → ⊥) → prefix_len (λ x. not (bytes_eq w x)) names ≡ k
first_at [] w k at none = cc
first_at (x ∷ xs) w zero at none =
    let same : w ≡ x = cc in
    let equal : bytes_eq w x ≡ true = (bytes_eq-Decides w x).1 same in
    ap (λ b. cond (not b) (1 + prefix_len (λ y. not (bytes_eq w y)) xs) 0) equal
first_at (x ∷ xs) w (suc k) at none = by (first_at xs w k at (λ i less. none (suc i) (omega arith))) (bytes_eq w x) refl
  where
    by : prefix_len (λ y. not (bytes_eq w y)) xs ≡ k → (b : Bool) → bytes_eq w x ≡ b
        → cond (not (bytes_eq w x)) (1 + prefix_len (λ y. not (bytes_eq w y)) xs) 0 ≡ suc k
    by rest true is =
        let same : w ≡ x = (bytes_eq-Decides w x).0 is in absurd (none 0 (omega arith) (ap Some (sym same)))
    by rest false is =
        ap (λ b. cond (not b) (1 + prefix_len (λ y. not (bytes_eq w y)) xs) 0) is ∙ ap (λ n. 1 + n) rest ∙ one_more k

-- a listed name's number is the place at which it stands
pub place_is_number : (names : List (List ℕ)) (w : List ℕ) (k : ℕ) → AreDistinct names → slice_get names k ≡ Some w
    → position (bytes_eq w) names ≡ Some k
place_is_number names w k distinct at =
    let within = slice_get_within names k w at in
    let place : prefix_len (λ x. not (bytes_eq w x)) names ≡ k =
    first_at names w k at
    (λ i less there.
    let same : i ≡ k = distinct.same_place i k (omega arith) within (there ∙ sym at) in absurd (omega arith)) in
    let below : nat_lt k (length names) ≡ true = grind (arith, nat_tests) in
    ap (λ n. cond (nat_lt n (length names)) (Some n) None) place ∙ ap (λ b. cond b (Some k) None) below
