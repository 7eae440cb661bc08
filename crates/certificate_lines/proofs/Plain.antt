-- Words of plain bytes make lines, and these words are read back of them.
use Rattle.std.proofs.Common.{◌≡◌, ℕ, ◌-◌, ◌^◌, ◌<◌, Bool, true, not, ◌&&◌, List, [], ◌∷◌, ◌++◌, length, get_or, ap}
use Rattle.std.proofs.Common.{refl, ◌∙◌, Some, arith}
use Rattle.std.specs.Prelude.{nat_eq, nat_lt, decimal, position, option_and_then, slice_index}
use Rattle.std.specs.List.{list_all}
use Rattle.std.specs.Char.{is_ascii_digit}
use Rattle.std.specs.Str.{bytes_eq}
use Rattle.std.proofs.lemmas.Bool.{and_parts, and_from, ltb-true}
use Rattle.std.proofs.lemmas.Bool.Decides.{nat_tests}
use Rattle.std.proofs.lemmas.List.{append-nil}
use Rattle.std.proofs.lemmas.List.Folds.{list_all-append}
use Rattle.std.proofs.lemmas.List.Sums.{AllPass-from_list_all}
use Rattle.std.proofs.lemmas.Option.{slice_get-get_or}
use Rattle.std.proofs.lemmas.Fmt.{digits_decimal}
use Rattle.shq_terms.proofs.Distinct.{place_is_number}
use Rattle.certificate_lines.specs.Lines.{words}
use Rattle.certificate_lines.specs.Names.{is_word_byte, AreNames, name_word, name_place}
use Rattle.certificate_lines.specs.Written.{line_of, is_word, is_line}
use Rattle.certificate_lines.proofs.Digits.{own, digits_all}
use Rattle.certificate_lines.proofs.ReadBack.{words_read, iri_read}

-- each passes a test where each passes a stronger one
pub all_weaker : (p q : ℕ → Bool) → ((b : ℕ) → p b ≡ true → q b ≡ true) → (bs : List ℕ) → list_all p bs ≡ true
    → list_all q bs ≡ true
all_weaker p q weaker [] h = refl
all_weaker p q weaker (b ∷ bs) h =
    let parts = and_parts (p b) (list_all p bs) h in
    and_from (q b) (list_all q bs) (weaker b parts.0) (all_weaker p q weaker bs parts.1)

-- ---- plain words make lines

not_blank : (b : ℕ) → is_word_byte b ≡ true → not (nat_eq b 32) ≡ true
not_blank b h = grind (arith, nat_tests)

-- neither end of a line
abbrev is_inner : ℕ → Bool
is_inner b = not (nat_eq b 10) && not (nat_eq b 13)

inner_byte : (b : ℕ) → is_word_byte b ≡ true → is_inner b ≡ true
inner_byte b h = grind (arith, nat_tests)

no_feed : (b : ℕ) → is_inner b ≡ true → not (nat_eq b 10) ≡ true
no_feed b h = grind (arith, nat_tests)

no_return : (b : ℕ) → is_inner b ≡ true → not (nat_eq b 13) ≡ true
no_return b h = grind (arith, nat_tests)

words_of_plain : (ws : List (List ℕ)) → list_all (list_all is_word_byte) ws ≡ true → list_all is_word ws ≡ true
words_of_plain [] h = refl
words_of_plain (w ∷ ws) h =
    let parts = and_parts (list_all is_word_byte w) (list_all (list_all is_word_byte) ws) h in
    and_from (is_word w) (list_all is_word ws) (all_weaker is_word_byte (λ b. not (nat_eq b 32)) not_blank w parts.0)
    (words_of_plain ws parts.1)

inner_line : (w : List ℕ) (ws : List (List ℕ)) → list_all (list_all is_word_byte) (w ∷ ws) ≡ true
    → list_all is_inner (line_of w ws) ≡ true
inner_line w [] h =
    let parts = and_parts (list_all is_word_byte w) (list_all (list_all is_word_byte) []) h in
    ap (list_all is_inner) (append-nil w) ∙ all_weaker is_word_byte is_inner inner_byte w parts.0
inner_line w (v ∷ vs) h =
    let parts = and_parts (list_all is_word_byte w) (list_all (list_all is_word_byte) (v ∷ vs)) h in
    list_all-append is_inner w (32 ∷ line_of v vs)
    ∙ and_from (list_all is_inner w) (list_all is_inner (32 ∷ line_of v vs))
    (all_weaker is_word_byte is_inner inner_byte w parts.0) (inner_line v vs parts.1)

last_inner : (l : List ℕ) → list_all is_inner l ≡ true → not (nat_eq (slice_index l (length l - 1)) 13) ≡ true
last_inner [] h = refl
last_inner (b ∷ bs) h =
    no_return (get_or (b ∷ bs) (length (b ∷ bs) - 1) 0)
    (AllPass-from_list_all is_inner (b ∷ bs) h (length (b ∷ bs) - 1) 0 (omega arith))

module _ (w : List ℕ) (ws : List (List ℕ)) (plain : list_all (list_all is_word_byte) (w ∷ ws) ≡ true) where
  pub plain_line : is_line (line_of w ws) ≡ true
  plain_line =
      let all = inner_line w ws plain in
      and_from (list_all (λ b. not (nat_eq b 10)) (line_of w ws))
      (not (nat_eq (slice_index (line_of w ws) (length (line_of w ws) - 1)) 13))
      (all_weaker is_inner (λ b. not (nat_eq b 10)) no_feed (line_of w ws) all) (last_inner (line_of w ws) all)

  pub plain_words : words (line_of w ws) ≡ w ∷ ws
  plain_words = words_read w ws (words_of_plain (w ∷ ws) plain)

pub lines_both : (as_ bs : List (List ℕ)) → list_all is_line as_ ≡ true → list_all is_line bs ≡ true
    → list_all is_line (as_ ++ bs) ≡ true
lines_both as_ bs f g = list_all-append is_line as_ bs ∙ and_from (list_all is_line as_) (list_all is_line bs) f g

-- ---- numbers and names are plain words

digit_byte : (b : ℕ) → is_ascii_digit b ≡ true → is_word_byte b ≡ true
digit_byte b h = grind (arith, nat_tests)

pub digits : (n : ℕ) → n < 2 ^ 32 → list_all is_ascii_digit (decimal n) ≡ true
digits n small = digits_all (decimal n) ∙ digits_decimal own n (omega arith)

pub plain_decimal : (n : ℕ) → n < 2 ^ 32 → list_all is_word_byte (decimal n) ≡ true
plain_decimal n small = all_weaker is_ascii_digit is_word_byte digit_byte (decimal n) (digits n small)

pub plain_name : (name : List ℕ) → list_all is_word_byte name ≡ true → list_all is_word_byte (name_word name) ≡ true
plain_name name h = list_all-append is_word_byte name (62 ∷ []) ∙ ap (λ b. b && true) h

-- ---- a listed name is read back

module _ (names : List (List ℕ)) (are : AreNames names) (n : ℕ) (listed : nat_lt n (length names) ≡ true) where
  pub listed_name_back : name_place names (name_word (get_or names n [])) ≡ Some n
  listed_name_back =
      ap (option_and_then (λ i. position (bytes_eq i) names)) (iri_read (get_or names n []))
      ∙ place_is_number names (get_or names n []) n are.distinct
      (slice_get-get_or names n [] (ltb-true n (length names) listed))

  pub listed_name_plain : list_all is_word_byte (name_word (get_or names n [])) ≡ true
  listed_name_plain =
      plain_name (get_or names n [])
      (AllPass-from_list_all (list_all is_word_byte) names are.plain n [] (ltb-true n (length names) listed))
