-- Facts of assertions by their places.
use Rattle.std.proofs.Common.{◌≡◌, ◌≢◌, ℕ, zero, suc, ◌+◌, ◌-◌, ◌<◌, ◌≤◌, List, [], ◌∷◌, ◌++◌, map, length, get_or}
use Rattle.std.proofs.Common.{drop, Bool, Some, None, option_map, refl, ap, sym, ◌∙◌, arith}
use Rattle.std.specs.Prelude.{slice_get, if◌then◌else◌}
use Rattle.std.proofs.lemmas.Bool.{ne_eqb}
use Rattle.std.proofs.lemmas.Option.{slice_get-get_or, slice_get-map}
use Rattle.std.proofs.lemmas.List.{length-map}
use Rattle.shq_terms.specs.Concept.{Concept}
use Rattle.calculus_specs.specs.declared.facts.Fact.{Fact}
use Rattle.calculus_specs.specs.declared.facts.Fact.TheVariants.{Apart, Same}
use Rattle.shq_nnf.specs.Facts.{same_facts, apart_facts}
use Rattle.shq_nnf.specs.Facts.{nth_fact}

-- places count from 1
pub first_place : (fs : List (Fact Concept)) (place : ℕ) → 0 < place → slice_get fs (place - 1) ≡ nth_fact fs place
first_place fs place low =
    let other : place ≢ 0 = omega arith in
    sym (ap (λ (b : Bool). if b then None else slice_get fs (place - 1)) (ne_eqb place 0 other))

-- an axiom with one fact has no other
pub no_other : (f : Fact Concept) (place : ℕ) → place ≢ 1 → None ≡ nth_fact (f ∷ []) place
no_other f zero other = refl
no_other f (suc zero) other = absurd (other refl)
no_other f (suc (suc place)) other =
    let less : suc (suc place) - 1 ≡ suc place = omega arith in
    sym (ap (slice_get (f ∷ [])) less) ∙ first_place (f ∷ []) (suc (suc place)) (omega arith)

-- ---- what is joined

at_left : {A : Type 0} (xs ys : List A) (i : ℕ) → i < length xs → slice_get (xs ++ ys) i ≡ slice_get xs i
at_left [] ys i lt = absurd (omega arith)
at_left (x ∷ xs) ys zero lt = refl
at_left (x ∷ xs) ys (suc i) lt = at_left xs ys i (omega arith)

at_right : {A : Type 0} (xs ys : List A) (i : ℕ) → length xs ≤ i → slice_get (xs ++ ys) i ≡ slice_get ys (i - length xs)
at_right [] ys i le = let same : i ≡ i - 0 = omega arith in ap (slice_get ys) same
at_right (x ∷ xs) ys zero le = absurd (omega arith)
at_right (x ∷ xs) ys (suc i) le =
    let same : i - length xs ≡ suc i - length (x ∷ xs) = omega arith in
    at_right xs ys i (omega arith) ∙ ap (slice_get ys) same

-- ---- individuals that are the same

same_at : (xs : List ℕ) (i : ℕ) → i + 1 < length xs
    → slice_get (same_facts xs) i ≡ Some (Same (get_or xs i 0) (get_or xs (i + 1) 0))
same_at [] i lt = absurd (omega arith)
same_at (x ∷ []) i lt = absurd (omega arith)
same_at (x ∷ y ∷ ys) zero lt = refl
same_at (x ∷ y ∷ ys) (suc i) lt =
    let next : suc (i + 1) ≡ suc i + 1 = omega arith in
    same_at (y ∷ ys) i (omega arith) ∙ ap (λ (k : ℕ). Some (Same (get_or (y ∷ ys) i 0) (get_or (x ∷ y ∷ ys) k 0))) next

no_same : (xs : List ℕ) (i : ℕ) → length xs ≤ i + 1 → slice_get (same_facts xs) i ≡ None
no_same [] i le = refl
no_same (x ∷ []) i le = refl
no_same (x ∷ y ∷ ys) zero le = absurd (omega arith)
no_same (x ∷ y ∷ ys) (suc i) le = no_same (y ∷ ys) i (omega arith)

pub neighbours : (xs : List ℕ) (place : ℕ) → 0 < place → place < length xs
    → Some (Same (get_or xs (place - 1) 0) (get_or xs place 0)) ≡ nth_fact (same_facts xs) place
neighbours xs place low lt =
    let there : place - 1 + 1 ≡ place = omega arith in
    let found =
    same_at xs (place - 1) (omega arith)
    ∙ ap (λ (k : ℕ). Some (Same (get_or xs (place - 1) 0) (get_or xs k 0))) there in
    sym found ∙ first_place (same_facts xs) place low

pub no_neighbours : (xs : List ℕ) (place : ℕ) → 0 < place → length xs ≤ place → None ≡ nth_fact (same_facts xs) place
no_neighbours xs place low le = sym (no_same xs (place - 1) (omega arith)) ∙ first_place (same_facts xs) place low

-- ---- individuals that are different

abbrev apart_of : ℕ → ℕ → Fact Concept
apart_of x y = Apart x y

-- the pairs of an individual with those after it come before the pairs of these
pub pair_found : (xs : List ℕ) (i rest : ℕ) → i + 1 + rest < length xs
    → slice_get (apart_facts (drop i xs)) rest ≡ Some (Apart (get_or xs i 0) (get_or xs (i + 1 + rest) 0))
pair_found [] i rest lt = absurd (omega arith)
pair_found (x ∷ xs) zero rest lt =
    let next : suc rest ≡ 0 + 1 + rest = omega arith in
    let within : rest < length xs = omega arith in
    at_left (map (Apart x) xs) (apart_facts xs) rest (omega (arith, length-map xs (apart_of x)))
    ∙ slice_get-map (Apart x) xs rest
    ∙ ap (option_map (Apart x)) (slice_get-get_or xs rest 0 within)
    ∙ ap (λ (k : ℕ). Some (Apart x (get_or (x ∷ xs) k 0))) next
pair_found (x ∷ xs) (suc i) rest lt =
    let next : suc (i + 1 + rest) ≡ suc i + 1 + rest = omega arith in
    pair_found xs i rest (omega arith) ∙ ap (λ (k : ℕ). Some (Apart (get_or xs i 0) (get_or (x ∷ xs) k 0))) next

pub pair_later : (xs : List ℕ) (i rest : ℕ) → i < length xs → length xs - i - 1 ≤ rest
    → slice_get (apart_facts (drop (i + 1) xs)) (rest - (length xs - i - 1)) ≡ slice_get (apart_facts (drop i xs)) rest
pair_later [] i rest lt le = absurd (omega arith)
pair_later (x ∷ xs) zero rest lt le =
    let later : length (x ∷ xs) - 0 - 1 ≡ length (map (apart_of x) xs) = omega (arith, length-map xs (apart_of x)) in
    ap (λ k. slice_get (apart_facts xs) (rest - k)) later
    ∙ sym (at_right (map (Apart x) xs) (apart_facts xs) rest (omega (arith, length-map xs (apart_of x))))
pair_later (x ∷ xs) (suc i) rest lt le =
    let later : length (x ∷ xs) - suc i - 1 ≡ length xs - i - 1 = omega arith in
    let next : suc i + 1 ≡ suc (i + 1) = omega arith in
    (λ j. slice_get (apart_facts (drop (next j) (x ∷ xs))) (rest - later j))
    ∙ pair_later xs i rest (omega arith) (omega arith)
