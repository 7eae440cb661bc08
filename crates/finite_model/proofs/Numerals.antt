-- Elements and pairs that are written in ascending order are read back.
use Rattle.std.proofs.Common.{◌≡◌, ℕ, suc, ◌+◌, ◌^◌, ◌<◌, ◌≤◌, Bool, true, false, not, ◌&&◌, cond, List, [], ◌∷◌, ◌++◌}
use Rattle.std.proofs.Common.{length, map, take, drop, refl, ap, ◌∙◌, Option, Some, None, option_map, arith}
use Rattle.std.proofs.Common.{length-append}
use Rattle.std.specs.Prelude.{nat_eq, nat_lt, nat_le, position, decimal, option_and_then, if◌then◌else◌}
use Rattle.std.specs.List.{filter, list_all, prefix_len, AllByRecursion}
use Rattle.std.specs.List.Sorted.{IsStrictlySortedBy}
use Rattle.std.specs.Char.{is_ascii_digit}
use Rattle.std.specs.declared.cmp.Ordering.TheVariants.{Less}
use Rattle.std.proofs.lemmas.Bool.{and_parts}
use Rattle.std.proofs.lemmas.Bool.Decides.{nat_tests}
use Rattle.std.proofs.lemmas.List.{take-append-le, take_all}
use Rattle.std.proofs.Math.Seq.{drop-append-add}
use Rattle.certificate_lines.proofs.Plain.{all_weaker, digits}
use Rattle.certificate_lines.proofs.ReadBack.{number_read}
use Rattle.finite_model.specs.ModelLists.{member_cmp, link_cmp}
use Rattle.finite_model.specs.ModelText.{element_in, elements_from, pair_at, pair_in, is_at_least, pair_from}
use Rattle.finite_model.specs.ModelText.{pairs_from}
use Rattle.finite_model.specs.Written.{elements_of, pairs_of}
use Rattle.finite_model.specs.declared.reading.Pair.{Pair}

-- ---- one element

pub element_read : (low size x : ℕ) → size < 2 ^ 32 → low ≤ x → x < size → element_in low size (decimal x) ≡ Some x
element_read low size x small from_low below =
    let least : nat_le low x ≡ true = grind (arith, nat_tests) in
    let less : nat_lt x size ≡ true = grind (arith, nat_tests) in
    ap (option_and_then (λ y. if nat_le low y && nat_lt y size then Some y else None)) (number_read x (omega arith))
    ∙ ap (λ b. if b && nat_lt x size then Some x else None) least ∙ ap (λ b. if b then Some x else None) less

-- ---- elements

abbrev pub Ascend : ℕ → ℕ → List ℕ → Type 0
Ascend low size [] = Unit {0}
Ascend low size (x ∷ xs) = (low ≤ x) × (x < size) × Ascend (x + 1) size xs

pub elements_read : (low size : ℕ) (xs : List ℕ) → size < 2 ^ 32 → Ascend low size xs
    → elements_from low size (map decimal xs) ≡ Some xs
elements_read low size [] small up = refl
elements_read low size (x ∷ xs) small up =
    ap (λ (r : Option ℕ). elim r
    [ None ↦ None | Some y ↦ option_map (λ ys. y ∷ ys) (elements_from (y + 1) size (map decimal xs)) ])
    (element_read low size x small up.0 up.1)
    ∙ ap (option_map (λ ys. x ∷ ys)) (elements_read (x + 1) size xs small up.2)

-- ---- a pair

-- the first place of an element that passes
pub first_place : {A : Type 0} (p : A → Bool) (xs : List A) (y : A) (ys : List A) → list_all (λ x. not (p x)) xs ≡ true
    → p y ≡ true → position p (xs ++ y ∷ ys) ≡ Some (length xs)
first_place p xs y ys none here =
    let place = prefix p xs y ys none here in
    let long : length (xs ++ y ∷ ys) ≡ length xs + suc (length ys) = length-append xs (y ∷ ys) in
    let inside : nat_lt (length xs) (length (xs ++ y ∷ ys)) ≡ true = grind (arith, nat_tests) in
    ap (λ n. cond (nat_lt n (length (xs ++ y ∷ ys))) (Some n) None) place
    ∙ ap (λ b. cond b (Some (length xs)) None) inside
  where
    prefix : {A : Type 0} (p : A → Bool) (xs : List A) (y : A) (ys : List A) → list_all (λ x. not (p x)) xs ≡ true
        → p y ≡ true → prefix_len (λ x. not (p x)) (xs ++ y ∷ ys) ≡ length xs
    prefix p [] y ys none here = ap (λ b. cond (not b) (1 + prefix_len (λ x. not (p x)) ys) 0) here
    prefix p (x ∷ xs) y ys none here =
        let parts = and_parts (not (p x)) (list_all (λ x. not (p x)) xs) none in
        let next : 1 + length xs ≡ suc (length xs) = omega arith in
        ap (λ b. cond b (1 + prefix_len (λ x. not (p x)) (xs ++ y ∷ ys)) 0) parts.0
        ∙ ap (λ n. 1 + n) (prefix p xs y ys parts.1 here) ∙ next

digit_no_comma : (b : ℕ) → is_ascii_digit b ≡ true → not (nat_eq 44 b) ≡ true
digit_no_comma b h = grind (arith, nat_tests)

no_comma : (bs : List ℕ) → list_all is_ascii_digit bs ≡ true → list_all (λ b. not (nat_eq 44 b)) bs ≡ true
no_comma bs h = all_weaker is_ascii_digit (λ b. not (nat_eq 44 b)) digit_no_comma bs h

-- `X,Y`
abbrev pub pair_word : ℕ × ℕ × ℕ → List ℕ
pair_word l = decimal l.1 ++ 44 ∷ decimal l.2

abbrev pub pair_of : ℕ × ℕ × ℕ → Pair
pair_of l = record { from = l.1; to = l.2 }

pair_cut : (size : ℕ) (xs ys : List ℕ) (x y : ℕ) → element_in 0 size xs ≡ Some x → element_in 0 size ys ≡ Some y
    → pair_at size (xs ++ 44 ∷ ys) (length xs) ≡ Some (record { from = x; to = y })
pair_cut size xs ys x y from to =
    let front : take (length xs) (xs ++ 44 ∷ ys) ≡ xs =
    take-append-le (length xs) xs (44 ∷ ys) (omega arith) ∙ take_all (length xs) xs (omega arith) in
    let back : drop (length xs + 1) (xs ++ 44 ∷ ys) ≡ ys = drop-append-add xs (44 ∷ ys) 1 in
    let begins : element_in 0 size (take (length xs) (xs ++ 44 ∷ ys)) ≡ Some x = ap (element_in 0 size) front ∙ from in
    let ends : element_in 0 size (drop (length xs + 1) (xs ++ 44 ∷ ys)) ≡ Some y = ap (element_in 0 size) back ∙ to in
    ap (option_and_then
    (λ a. option_map (λ b. record { from = a; to = b }) (element_in 0 size (drop (length xs + 1) (xs ++ 44 ∷ ys)))))
    begins
    ∙ ap (option_map (λ b. record { from = x; to = b })) ends

pair_read : (size : ℕ) (l : ℕ × ℕ × ℕ) → size < 2 ^ 32 → l.1 < size → l.2 < size
    → pair_in size (pair_word l) ≡ Some (pair_of l)
pair_read size l small from to =
    ap (option_and_then (pair_at size (pair_word l)))
    (first_place (nat_eq 44) (decimal l.1) 44 (decimal l.2) (no_comma (decimal l.1) (digits l.1 (omega arith))) refl)
    ∙ pair_cut size (decimal l.1) (decimal l.2) l.1 l.2 (element_read 0 size l.1 small (omega arith) from)
    (element_read 0 size l.2 small (omega arith) to)

-- ---- pairs

abbrev pub PairsAscend : Pair → ℕ → List (ℕ × ℕ × ℕ) → Type 0
PairsAscend low size [] = Unit {0}
PairsAscend low size (l ∷ ls) = (is_at_least low (pair_of l) ≡ true) × (l.1 < size) × (l.2 < size)
    × PairsAscend (record { from = l.1; to = l.2 + 1 }) size ls

pub pairs_read : (low : Pair) (size : ℕ) (ls : List (ℕ × ℕ × ℕ)) → size < 2 ^ 32 → PairsAscend low size ls
    → pairs_from low size (map pair_word ls) ≡ Some (map pair_of ls)
pairs_read low size [] small up = refl
pairs_read low size (l ∷ ls) small up =
    let one : pair_from low size (pair_word l) ≡ Some (pair_of l) =
    ap (option_and_then (λ p. if is_at_least low p then Some p else None)) (pair_read size l small up.1 up.2)
    ∙ ap (λ b. if b then Some (pair_of l) else None) up.0 in
    ap (λ (r : Option Pair). elim r [
      | None ↦ None
      | Some p ↦
          option_map (λ ps. p ∷ ps) (pairs_from (record { from = p.from; to = p.to + 1 }) size (map pair_word ls))
    ])
    one
    ∙ ap (option_map (λ ps. pair_of l ∷ ps)) (pairs_read (record { from = l.1; to = l.2 + 1 }) size ls small up.3)

-- ---- what is kept in order ascends

member_next : (a : ℕ) (m n : ℕ × ℕ) → nat_eq m.0 a ≡ true → nat_eq n.0 a ≡ true → member_cmp m n ≡ Less → m.1 + 1 ≤ n.1
member_next a m n g h less = grind (arith, nat_tests)

abbrev AtLeast : ℕ → ℕ → List (ℕ × ℕ) → Type 0
AtLeast a low ms = AllByRecursion (λ (n : ℕ × ℕ). nat_eq n.0 a ≡ true → low ≤ n.1) ms

all_next : (a : ℕ) (m : ℕ × ℕ) (ms : List (ℕ × ℕ)) → nat_eq m.0 a ≡ true
    → AllByRecursion (λ n. member_cmp m n ≡ Less) ms → AtLeast a (m.1 + 1) ms
all_next a m [] here less = tt
all_next a m (n ∷ ns) here less = ((λ h. member_next a m n here h less.0), all_next a m ns here less.1)

pub elements_ascend : (a low size : ℕ) (ms : List (ℕ × ℕ)) → IsStrictlySortedBy member_cmp ms → AtLeast a low ms
    → list_all (λ m. nat_lt m.1 size) ms ≡ true → Ascend low size (elements_of a ms)
unfolding IsStrictlySortedBy
elements_ascend a low size [] sorted least below = tt
elements_ascend a low size (m ∷ ms) sorted least below =
    by (nat_eq m.0 a) refl (λ next up. elements_ascend a next size ms sorted.1 up parts.1)
  where
    parts : (nat_lt m.1 size ≡ true) × (list_all (λ n. nat_lt n.1 size) ms ≡ true)
    parts = and_parts (nat_lt m.1 size) (list_all (λ n. nat_lt n.1 size) ms) below

    by : (b : Bool) → nat_eq m.0 a ≡ b → ((next : ℕ) → AtLeast a next ms → Ascend next size (elements_of a ms))
        → Ascend low size (map (λ n. n.1) (cond b (m ∷ filter (λ n. nat_eq n.0 a) ms) (filter (λ n. nat_eq n.0 a) ms)))
    by true here rest =
        let first = parts.0 in
        let less : m.1 < size = grind (arith, nat_tests) in
        (least.0 here, less, rest (m.1 + 1) (all_next a m ms here sorted.0))
    by false here rest = rest low least.1

pub at_least_none : (a : ℕ) (ms : List (ℕ × ℕ)) → AtLeast a 0 ms
at_least_none a [] = tt
at_least_none a (m ∷ ms) = ((λ h. omega arith), at_least_none a ms)

link_next : (r : ℕ) (l m : ℕ × ℕ × ℕ) → nat_eq l.0 r ≡ true → nat_eq m.0 r ≡ true → link_cmp l m ≡ Less
    → is_at_least (record { from = l.1; to = l.2 + 1 }) (pair_of m) ≡ true
link_next r l m g h less = grind (arith, nat_tests)

abbrev PairAtLeast : ℕ → Pair → List (ℕ × ℕ × ℕ) → Type 0
PairAtLeast r low ls = AllByRecursion (λ (m : ℕ × ℕ × ℕ). nat_eq m.0 r ≡ true → is_at_least low (pair_of m) ≡ true) ls

all_links_next : (r : ℕ) (l : ℕ × ℕ × ℕ) (ls : List (ℕ × ℕ × ℕ)) → nat_eq l.0 r ≡ true
    → AllByRecursion (λ m. link_cmp l m ≡ Less) ls → PairAtLeast r (record { from = l.1; to = l.2 + 1 }) ls
all_links_next r l [] here less = tt
all_links_next r l (m ∷ ms) here less = ((λ h. link_next r l m here h less.0), all_links_next r l ms here less.1)

pub pairs_ascend : (r : ℕ) (low : Pair) (size : ℕ) (ls : List (ℕ × ℕ × ℕ)) → IsStrictlySortedBy link_cmp ls
    → PairAtLeast r low ls → list_all (λ l. nat_lt l.1 size && nat_lt l.2 size) ls ≡ true
    → PairsAscend low size (pairs_of r ls)
unfolding IsStrictlySortedBy
pairs_ascend r low size [] sorted least below = tt
pairs_ascend r low size (l ∷ ls) sorted least below =
    by (nat_eq l.0 r) refl (λ next up. pairs_ascend r next size ls sorted.1 up parts.1)
  where
    parts : ((nat_lt l.1 size && nat_lt l.2 size) ≡ true)
        × (list_all (λ m. nat_lt m.1 size && nat_lt m.2 size) ls ≡ true)
    parts = and_parts (nat_lt l.1 size && nat_lt l.2 size) (list_all (λ m. nat_lt m.1 size && nat_lt m.2 size) ls) below

    by : (b : Bool) → nat_eq l.0 r ≡ b → ((next : Pair) → PairAtLeast r next ls → PairsAscend next size (pairs_of r ls))
        → PairsAscend low size (cond b (l ∷ filter (λ m. nat_eq m.0 r) ls) (filter (λ m. nat_eq m.0 r) ls))
    by true here rest =
        let both = and_parts (nat_lt l.1 size) (nat_lt l.2 size) parts.0 in
        let f = both.0 in
        let g = both.1 in
        let from : l.1 < size = grind (arith, nat_tests) in
        let to : l.2 < size = grind (arith, nat_tests) in
        (least.0 here, from, to, rest (record { from = l.1; to = l.2 + 1 }) (all_links_next r l ls here sorted.0))
    by false here rest = rest low least.1

pub pair_at_least_none : (r : ℕ) (ls : List (ℕ × ℕ × ℕ)) → PairAtLeast r (record { from = 0; to = 0 }) ls
pair_at_least_none r [] = tt
pair_at_least_none r (l ∷ ls) = ((λ h. anything l.1 l.2), pair_at_least_none r ls)
  where
    anything : (x y : ℕ) → is_at_least (record { from = 0; to = 0 }) (record { from = x; to = y }) ≡ true
    anything x y = grind (arith, nat_tests)
