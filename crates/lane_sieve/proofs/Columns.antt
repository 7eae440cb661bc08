-- The column of first words beside its rows, and blocks of it in which no word passes.
use Rattle.std.proofs.Common.{◌≡◌, ℕ, ◌+◌, ◌-◌, ◌<◌, ◌≤◌, List, [], ◌∷◌, ◌++◌, true, false, zero, suc, set, length}
use Rattle.std.proofs.Common.{take, drop, get_or, refl, ap, ◌∙◌, sym, arith}
use Rattle.std.specs.Simd.Lanes.{chunk}
use Rattle.std.specs.Prelude.{◌&&◌, not, cond}
use Rattle.std.proofs.lemmas.Bool.{false≢true}
use Rattle.std.proofs.lemmas.List.{drop-drop}
use Rattle.lane_sieve.specs.Columns.{AreFirsts}
use Rattle.lane_sieve.specs.Words.{is_part, is_part_of_none, is_subset, places}

pub firsts-length : (xs : List ℕ) (rows : List (List ℕ)) → AreFirsts xs rows → length xs ≡ length rows
firsts-length [] [] h = refl
firsts-length [] (r ∷ rows) h = absurd h
firsts-length (x ∷ xs) [] h = absurd h
firsts-length (x ∷ xs) ([] ∷ rows) h = absurd h
firsts-length (x ∷ xs) ((y ∷ ys) ∷ rows) h = ap (λ (n : ℕ). suc n) (firsts-length xs rows h.1)

pub firsts-push : (xs : List ℕ) (rows : List (List ℕ)) (row : List ℕ) → 0 < length row → AreFirsts xs rows
    → AreFirsts (xs ++ get_or row 0 0 ∷ []) (rows ++ row ∷ [])
firsts-push [] [] [] some h = absurd (omega (arith, some))
firsts-push [] [] (y ∷ ys) some h = (refl, tt)
firsts-push [] (r ∷ rows) row some h = absurd h
firsts-push (x ∷ xs) [] row some h = absurd h
firsts-push (x ∷ xs) ([] ∷ rows) row some h = absurd h
firsts-push (x ∷ xs) ((y ∷ ys) ∷ rows) row some h = (h.0, firsts-push xs rows row some h.1)

-- a word that was put last is taken off again
pub firsts-undo : (xs ys : List ℕ) (rows : List (List ℕ)) → AreFirsts xs rows
    → AreFirsts (take (length rows) (xs ++ ys)) rows
firsts-undo [] ys [] h = tt
firsts-undo [] ys (r ∷ rows) h = absurd h
firsts-undo (x ∷ xs) ys [] h = absurd h
firsts-undo (x ∷ xs) ys ([] ∷ rows) h = absurd h
firsts-undo (x ∷ xs) ys ((z ∷ zs) ∷ rows) h = (h.0, firsts-undo xs ys rows h.1)

pub firsts-take : (n : ℕ) (xs : List ℕ) (rows : List (List ℕ)) → AreFirsts xs rows → AreFirsts (take n xs) (take n rows)
firsts-take zero xs rows h = tt
firsts-take (suc n) [] [] h = tt
firsts-take (suc n) [] (r ∷ rows) h = absurd h
firsts-take (suc n) (x ∷ xs) [] h = absurd h
firsts-take (suc n) (x ∷ xs) ([] ∷ rows) h = absurd h
firsts-take (suc n) (x ∷ xs) ((y ∷ ys) ∷ rows) h = (h.0, firsts-take n xs rows h.1)

pub firsts-set : (n : ℕ) (xs : List ℕ) (rows : List (List ℕ)) (row : List ℕ) → 0 < length row → AreFirsts xs rows
    → AreFirsts (set xs n (get_or row 0 0)) (set rows n row)
firsts-set n [] [] row some h = tt
firsts-set n [] (r ∷ rows) row some h = absurd h
firsts-set n (x ∷ xs) [] row some h = absurd h
firsts-set n (x ∷ xs) ([] ∷ rows) row some h = absurd h
firsts-set zero (x ∷ xs) ((y ∷ ys) ∷ rows) [] some h = absurd (omega (arith, some))
firsts-set zero (x ∷ xs) ((y ∷ ys) ∷ rows) (z ∷ zs) some h = (refl, h.1)
firsts-set (suc n) (x ∷ xs) ((y ∷ ys) ∷ rows) row some h = (h.0, firsts-set n xs rows row some h.1)

-- a print whose first word has a bit that no first word has is contained nowhere
none_here : (place x : ℕ) (rest xs : List ℕ) (rows : List (List ℕ)) → AreFirsts xs rows → is_part_of_none x xs ≡ true
    → places place (x ∷ rest) rows ≡ []
none_here place x rest [] [] h none = refl
none_here place x rest [] (r ∷ rows) h none = absurd h
none_here place x rest (y ∷ xs) [] h none = absurd h
none_here place x rest (y ∷ xs) ([] ∷ rows) h none = absurd h
none_here place x rest (y ∷ xs) ((z ∷ zs) ∷ rows) h none =
    let ih = none_here (place + 1) x rest xs rows h.1 in
    rw (sym h.0) (
    (
    elim (is_part x y) as
    (λ b. not b && is_part_of_none x xs ≡ true
    → cond (b && is_subset rest zs) (place ∷ places (place + 1) (x ∷ rest) rows)
    (places (place + 1) (x ∷ rest) rows)
    ≡ [])
    [ true ↦ λ e. absurd (false≢true e) | false ↦ ih ])
    none)

skip_from : (at place n x : ℕ) (rest xs : List ℕ) (rows : List (List ℕ)) → AreFirsts xs rows
    → is_part_of_none x (chunk at n xs) ≡ true
    → places place (x ∷ rest) (take (at + n) rows) ≡ places place (x ∷ rest) (take at rows)
skip_from zero place n x rest xs rows h none =
    let e : 0 + n ≡ n = omega arith in
    rw e (none_here place x rest (take n xs) (take n rows) (firsts-take n xs rows h) none)
skip_from (suc at) place n x rest [] [] h none =
    let e : suc at + n ≡ suc (at + n) = omega arith in
    rw e refl
skip_from (suc at) place n x rest [] (r ∷ rows) h none = absurd h
skip_from (suc at) place n x rest (y ∷ xs) [] h none = absurd h
skip_from (suc at) place n x rest (y ∷ xs) ([] ∷ rows) h none = absurd h
skip_from (suc at) place n x rest (y ∷ xs) ((z ∷ zs) ∷ rows) h none =
    let ih = skip_from at (place + 1) n x rest xs rows h.1 none in
    let e : suc at + n ≡ suc (at + n) = omega arith in
    rw (e, ih) refl

-- a block in which no first word passes holds no place that is looked for
pub skip_block : (at : ℕ) (print xs : List ℕ) (rows : List (List ℕ)) → 0 < length print → AreFirsts xs rows
    → is_part_of_none (get_or print 0 0) (chunk at 4 xs) ≡ true
    → places 0 print (take (at + 4) rows) ≡ places 0 print (take at rows)
skip_block at [] xs rows some h none = absurd (omega (arith, some))
skip_block at (x ∷ rest) xs rows some h none = skip_from at 0 4 x rest xs rows h none

-- ---- what stands behind the places found

pub drop_further : (m n : ℕ) (xs ys : List ℕ) → m ≤ n → drop m xs ≡ drop m ys → drop n xs ≡ drop n ys
drop_further m n xs ys le h =
    let e : m + (n - m) ≡ n = omega (arith, le) in
    ap (λ (k : ℕ). drop k xs) (sym e) ∙ sym (drop-drop (n - m) m xs) ∙ ap (drop (n - m)) h ∙ drop-drop (n - m) m ys
    ∙ ap (λ (k : ℕ). drop k ys) e
