-- Numerals, as std reads them.
use Rattle.std.proofs.Common.{◌≡◌, ℕ, ◌<◌, ◌^◌, true, false, not, ◌&&◌, ◌||◌, List, [], ◌∷◌, length, refl, ap, None}
use Rattle.std.proofs.Common.{Result, Err, sym, ◌∙◌, subst}
use Rattle.std.specs.Prelude.{nat_lt, nat_eq, slice_index}
use Rattle.std.specs.Char.{is_ascii_digit}
use Rattle.std.specs.List.{list_all}
use Rattle.std.specs.Str.{all_ascii_digits, IsUtf8}
use Rattle.std.specs.Str.Parse.{digits_value, ParsesUnsigned}
use Rattle.std.proofs.lemmas.Bool.{and_parts, ltb-true, false_from_ne_true}
use Rattle.std.proofs.lemmas.Str.{IsUtf8-from_ascii}
use Rattle.std.proofs.lemmas.Str.Parse.{IsNumeralModel, numerals_by_value, tells_all_ascii_digits, parse_digits}
use Rattle.std.proofs.lemmas.Fmt.{IsAscii-from_digits}
use Rattle.certificate_lines.specs.Lines.{is_numeral, small_value}

pub digits_all : (bs : List ℕ) → list_all is_ascii_digit bs ≡ all_ascii_digits bs
digits_all [] = refl
digits_all (b ∷ bs) = ap (λ v. is_ascii_digit b && v) (digits_all bs)

pub own : IsNumeralModel (λ ds. all_ascii_digits ds ≡ true) (digits_value 10)
own = numerals_by_value _ tells_all_ascii_digits

module _ (bs : List ℕ) (h : is_numeral bs ≡ true) where
  digits_and_some : (list_all is_ascii_digit bs && nat_lt 0 (length bs)) ≡ true
  digits_and_some =
      (and_parts (list_all is_ascii_digit bs && nat_lt 0 (length bs))
      (nat_eq (length bs) 1 || not (nat_eq (slice_index bs 0) 48)) h).0

  parts : (list_all is_ascii_digit bs ≡ true) × (nat_lt 0 (length bs) ≡ true)
  parts = and_parts (list_all is_ascii_digit bs) (nat_lt 0 (length bs)) digits_and_some

  digits_of_numeral : all_ascii_digits bs ≡ true
  digits_of_numeral = sym (digits_all bs) ∙ parts.0

  some_of_numeral : 0 < length bs
  some_of_numeral = ltb-true 0 (length bs) parts.1

pub numeral_is_text : (bs : List ℕ) → is_numeral bs ≡ true → IsUtf8 bs
numeral_is_text bs h = IsUtf8-from_ascii bs (IsAscii-from_digits bs (own.to bs (digits_of_numeral bs h)))

small_none : (n : ℕ) → ¬ (n < 2 ^ 32) → nat_lt n (2 ^ 32) ≡ false
small_none n h = false_from_ne_true (nat_lt n (2 ^ 32)) (λ less. h (ltb-true n (2 ^ 32) less))

-- where std reads no number below 2 ^ 32 from a numeral, it has none
pub small_value_err : (bs text : List ℕ) → is_numeral bs ≡ true → text ≡ bs → ParsesUnsigned {E = ℕ} 32 10 text (Err 0)
    → None ≡ small_value bs
small_value_err bs text h same parses =
    let here : ParsesUnsigned {E = ℕ} 32 10 bs (Err 0) =
    subst (λ t. ParsesUnsigned {E = ℕ} 32 10 t (Err 0)) same parses in
    let failed : Result ℕ ℕ = Err 0 in
    let none = parse_digits own 32 bs failed here (digits_of_numeral bs h) in
    rw (small_none (digits_value 10 bs) (λ less. none (some_of_numeral bs h, less)))
