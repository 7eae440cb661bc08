-- What is written is read back: words, lines, numbers, names.
use Rattle.std.proofs.Common.{◌≡◌, ℕ, zero, suc, ◌+◌, ◌-◌, ◌^◌, ◌<◌, Bool, true, false, not, ◌||◌, List, [], ◌∷◌, ◌++◌}
use Rattle.std.proofs.Common.{length, map, take, get_or, refl, ap, ◌∙◌, Some, None, inl, inr, ◌⊎◌, arith, append_assoc}
use Rattle.std.proofs.Common.{length-append}
use Rattle.std.specs.Prelude.{nat_lt, nat_eq, slice_index, decimal, if◌then◌else◌}
use Rattle.std.specs.Char.{is_ascii_digit}
use Rattle.std.specs.List.{list_all, All, slice_split}
use Rattle.std.specs.Str.Lines.{strip_carriage_return}
use Rattle.std.specs.Str.Parse.{digits_value}
use Rattle.std.proofs.lemmas.Bool.{and_parts, not-true, or_right}
use Rattle.std.proofs.lemmas.Bool.Decides.{nat_tests}
use Rattle.std.proofs.lemmas.List.{append-nil, take-append-le, take_all, get_or_push}
use Rattle.std.proofs.lemmas.List.Sums.{AllPass-from_list_all}
use Rattle.std.proofs.lemmas.List.Splits.{slice_split_none, slice_split_at}
use Rattle.std.proofs.lemmas.Fmt.{digits_decimal, digits_value-decimal, decimal_digit, decimal_nonempty, first_decimal}
use Rattle.certificate_lines.specs.Lines.{is_numeral, number_in, is_bracketed, iri_in}
use Rattle.certificate_lines.specs.Written.{line_of, text_of, is_word, is_line}
use Rattle.certificate_lines.proofs.Digits.{own, digits_all}

none_passes : (p : ℕ → Bool) (xs : List ℕ) → list_all (λ b. not (p b)) xs ≡ true → All (λ x. p x ≡ false) xs
none_passes p xs h = λ k d less. not-true (p (get_or xs k d)) (AllPass-from_list_all (λ b. not (p b)) xs h k d less)

-- ---- words

pub words_read : (w : List ℕ) (ws : List (List ℕ)) → list_all is_word (w ∷ ws) ≡ true
    → slice_split (λ b. nat_eq b 32) (line_of w ws) ≡ w ∷ ws
words_read w [] h =
    let parts = and_parts (is_word w) (list_all is_word []) h in
    ap (slice_split (λ b. nat_eq b 32)) (append-nil w)
    ∙ slice_split_none (λ b. nat_eq b 32) w (none_passes (λ b. nat_eq b 32) w parts.0)
words_read w (v ∷ vs) h =
    let parts = and_parts (is_word w) (list_all is_word (v ∷ vs)) h in
    slice_split_at (λ b. nat_eq b 32) w 32 (line_of v vs) (none_passes (λ b. nat_eq b 32) w parts.0) refl
    ∙ ap (λ l. w ∷ l) (words_read v vs parts.1)

-- ---- lines

whole : (l : List ℕ) → not (nat_eq (slice_index l (length l - 1)) 13) ≡ true → strip_carriage_return l ≡ l
whole l h = ap (λ b. if b then take (length l - 1) l else l) (not-true (nat_eq (slice_index l (length l - 1)) 13) h)

pub lines_read : (ls : List (List ℕ)) → list_all is_line ls ≡ true
    → map strip_carriage_return (slice_split (λ b. nat_eq b 10) (text_of ls)) ≡ ls ++ [] ∷ []
lines_read [] h = refl
lines_read (l ∷ ls) h =
    let parts = and_parts (is_line l) (list_all is_line ls) h in
    let line =
    and_parts (list_all (λ b. not (nat_eq b 10)) l) (not (nat_eq (slice_index l (length l - 1)) 13)) parts.0 in
    let rest = lines_read ls parts.1 in
    let first = whole l line.1 in
    ap (λ t. map strip_carriage_return (slice_split (λ b. nat_eq b 10) t)) (append_assoc l (10 ∷ []) (text_of ls))
    ∙ ap (map strip_carriage_return)
    (slice_split_at (λ b. nat_eq b 10) l 10 (text_of ls) (none_passes (λ b. nat_eq b 10) l line.0) refl)
    ∙ (λ i. first i ∷ rest i)

-- ---- numbers

numeral_value : (w : List ℕ) (n : ℕ) → list_all is_ascii_digit w ≡ true → nat_lt 0 (length w) ≡ true
    → (nat_eq (length w) 1 || not (nat_eq (slice_index w 0) 48)) ≡ true → digits_value 10 w ≡ n
    → nat_lt n (2 ^ 32) ≡ true → number_in w ≡ Some n
numeral_value w n all some lead value small =
    let numeral : is_numeral w ≡ true = rw (all, some, lead) in
    ap (λ b. if b then (if nat_lt (digits_value 10 w) (2 ^ 32) then Some (digits_value 10 w) else None) else None)
    numeral
    ∙ ap (λ v. if nat_lt v (2 ^ 32) then Some v else None) value
    ∙ ap (λ b. if b then Some n else None) small

leads : (w : List ℕ) → (w ≡ 48 ∷ []) ⊎ (48 < get_or w 0 0)
    → (nat_eq (length w) 1 || not (nat_eq (slice_index w 0) 48)) ≡ true
leads w (inl zero_alone) = rw zero_alone
leads w (inr more) =
    let other : nat_eq (slice_index w 0) 48 ≡ false = grind (arith, nat_tests) in
    or_right (nat_eq (length w) 1) (not (nat_eq (slice_index w 0) 48)) (ap not other)

zero_or_more : (n : ℕ) → n < 2 ^ 64 → (decimal n ≡ 48 ∷ []) ⊎ (48 < get_or (decimal n) 0 0)
zero_or_more n big = by n big
  where
    by : (m : ℕ) → m < 2 ^ 64 → (decimal m ≡ 48 ∷ []) ⊎ (48 < get_or (decimal m) 0 0)
    by zero big = inl (decimal_digit 0 (omega arith))
    by (suc m) big = inr (first_decimal (suc m) (omega arith) big)

pub number_read : (n : ℕ) → n < 2 ^ 32 → number_in (decimal n) ≡ Some n
number_read n small =
    let big : n < 2 ^ 64 = omega arith in
    let all : list_all is_ascii_digit (decimal n) ≡ true = digits_all (decimal n) ∙ digits_decimal own n big in
    let nonempty = decimal_nonempty n big in
    let some : nat_lt 0 (length (decimal n)) ≡ true = grind (arith, nat_tests) in
    let fits : nat_lt n (2 ^ 32) ≡ true = grind (arith, nat_tests) in
    numeral_value (decimal n) n all some (leads (decimal n) (zero_or_more n big)) (digits_value-decimal own n big) fits

-- ---- names

pub iri_read : (name : List ℕ) → iri_in (60 ∷ name ++ 62 ∷ []) ≡ Some name
iri_read name =
    let word = 60 ∷ name ++ 62 ∷ [] in
    let long : length (name ++ 62 ∷ []) ≡ length name + 1 = length-append name (62 ∷ []) in
    let wide : nat_lt 1 (length (60 ∷ name ++ 62 ∷ [])) ≡ true = grind (arith, nat_tests) in
    let place : length (60 ∷ name ++ 62 ∷ []) - 1 ≡ suc (length name) = omega arith in
    let last : slice_index (60 ∷ name ++ 62 ∷ []) (length (60 ∷ name ++ 62 ∷ []) - 1) ≡ 62 =
    ap (slice_index (60 ∷ name ++ 62 ∷ [])) place ∙ get_or_push name 62 0 (length name) refl in
    let bracketed : is_bracketed (60 ∷ name ++ 62 ∷ []) ≡ true = rw (wide, last) in
    let cut : length (60 ∷ name ++ 62 ∷ []) - 2 ≡ length name = omega arith in
    let inner : take (length (60 ∷ name ++ 62 ∷ []) - 2) (name ++ 62 ∷ []) ≡ name =
    ap (λ n. take n (name ++ 62 ∷ [])) cut ∙ take-append-le (length name) name (62 ∷ []) (omega arith)
    ∙ take_all (length name) name (omega arith) in
    ap (λ b. if b then Some (take (length (60 ∷ name ++ 62 ∷ []) - 2) (name ++ 62 ∷ [])) else None) bracketed
    ∙ ap Some inner
