-- The places of names in a list in which none stands twice.
use Rattle.std.proofs.Common.{◌≡◌, ℕ, zero, suc, ◌+◌, ◌<◌, Bool, true, false, ◌||◌, List, [], ◌∷◌, ◌++◌, length, get_or}
use Rattle.std.proofs.Common.{position, Option, Some, None, refl, ap, sym, ◌∙◌, arith, length-append}
use Rattle.std.specs.Prelude.{slice_get}
use Rattle.std.specs.List.{list_any}
use Rattle.std.specs.Str.{bytes_eq}
use Rattle.std.proofs.lemmas.Slice.Eq.{bytes_eq-Decides}
use Rattle.std.proofs.lemmas.List.Quantifiers.{position-Some}
use Rattle.shq_terms.specs.Distinct.{AreDistinct}
use Rattle.shq_terms.proofs.Position.{list_any-none}

same_bytes : (v w : List ℕ) → bytes_eq v w ≡ true → v ≡ w
same_bytes v w h = (bytes_eq-Decides v w).0 h

equal_bytes : (w : List ℕ) → bytes_eq w w ≡ true
equal_bytes w = (bytes_eq-Decides w w).1 refl

get_at : (names : List (List ℕ)) (k : ℕ) → k < length names → slice_get names k ≡ Some (get_or names k [])
get_at [] k less = absurd (omega (arith, less))
get_at (w ∷ names) zero less = refl
get_at (w ∷ names) (suc k) less = get_at names k (omega (arith, less))

get_before : (names others : List (List ℕ)) (k : ℕ) → k < length names
    → slice_get (names ++ others) k ≡ Some (get_or names k [])
get_before [] others k less = absurd (omega (arith, less))
get_before (w ∷ names) others zero less = refl
get_before (w ∷ names) others (suc k) less = get_before names others k (omega (arith, less))

get_next : (names : List (List ℕ)) (w : List ℕ) (others : List (List ℕ))
    → slice_get (names ++ w ∷ others) (length names) ≡ Some w
get_next [] w others = refl
get_next (v ∷ names) w others = get_next names w others

finds : (w : List ℕ) (names : List (List ℕ)) (k : ℕ) → k < length names → get_or names k [] ≡ w
    → list_any (bytes_eq w) names ≡ true
finds w [] k less at = absurd (omega (arith, less))
finds w (v ∷ names) zero less at =
    let same : bytes_eq w v ≡ true = ap (bytes_eq w) at ∙ equal_bytes w in
    ap (λ b. b || list_any (bytes_eq w) names) same
finds w (v ∷ names) (suc k) less at = by (bytes_eq w v) (finds w names k (omega (arith, less)) at)
  where
    by : (b : Bool) → list_any (bytes_eq w) names ≡ true → (b || list_any (bytes_eq w) names) ≡ true
    by true h = refl
    by false h = h

-- each name is found at its place
pub own_place : (names : List (List ℕ)) (k : ℕ) → AreDistinct names → k < length names
    → position (bytes_eq (get_or names k [])) names ≡ Some k
own_place names k distinct less = by (position (bytes_eq w) names) refl
  where
    w : List ℕ
    w = get_or names k []

    by : (r : Option ℕ) → position (bytes_eq w) names ≡ r → position (bytes_eq w) names ≡ Some k
    by None none =
        let clash : true ≡ false = sym (finds w names k less refl) ∙ list_any-none (bytes_eq w) names none in
        absurd (cc clash)
    by (Some j) found =
        let there = position-Some (bytes_eq w) names j [] found in
        let same : w ≡ get_or names j [] = same_bytes w (get_or names j []) there.1 in
        let places : slice_get names k ≡ slice_get names j =
        get_at names k less ∙ ap Some same ∙ sym (get_at names j there.0) in
        found ∙ ap Some (sym (distinct.same_place k j less there.0 places))

-- the next name is not listed yet
pub fresh : (before : List (List ℕ)) (w : List ℕ) (others : List (List ℕ)) → AreDistinct (before ++ w ∷ others)
    → position (bytes_eq w) before ≡ None
fresh before w others distinct = by (position (bytes_eq w) before) refl
  where
    by : (r : Option ℕ) → position (bytes_eq w) before ≡ r → position (bytes_eq w) before ≡ None
    by None none = none
    by (Some j) found =
        let there = position-Some (bytes_eq w) before j [] found in
        let same : w ≡ get_or before j [] = same_bytes w (get_or before j []) there.1 in
        let places : slice_get (before ++ w ∷ others) j ≡ slice_get (before ++ w ∷ others) (length before) =
        get_before before (w ∷ others) j there.0 ∙ ap Some (sym same) ∙ sym (get_next before w others) in
        let long : length (before ++ w ∷ others) ≡ length before + suc (length others) =
        length-append before (w ∷ others) in
        let one_place : j ≡ length before =
        distinct.same_place j (length before) (omega (arith, long, there.0)) (omega (arith, long)) places in
        absurd (omega (arith, one_place, there.0))
