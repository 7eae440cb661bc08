-- The lines of a workload may stand in a text: they are UTF-8, their names and IRIs are whole, and few brackets are
-- open.
use Rattle.std.proofs.Common.{◌≡◌, ℕ, zero, suc, ◌+◌, ◌≤◌, true, ◌&&◌, List, [], ◌∷◌, ◌++◌, refl, arith, codes, decimal}
use Rattle.std.proofs.Common.{nat_lt}
use Rattle.std.specs.List.{list_all}
use Rattle.std.specs.Str.{IsUtf8}
use Rattle.std.specs.Str.Parse.{AllDigits}
use Rattle.std.proofs.lemmas.Bool.{and_parts, and_from}
use Rattle.std.proofs.lemmas.Fmt.{decimal_is_IsNumeral, IsAscii-decimal}
use Rattle.std.proofs.lemmas.Grind.{common_steps}
use Rattle.std.proofs.lemmas.Str.{IsUtf8-append, IsUtf8-from_ascii}
use Rattle.std.proofs.lemmas.Str.Parse.{digit_from_value}
use Rattle.ofn_tree.specs.Lexemes.{is_name_byte}
use Rattle.text_laws.proofs.Phrases.{Phrase, word, call, can_stand, all_can_stand, lines_text}
use Rattle.text_laws.proofs.Terms.{two, three, Stands, stands_call, stand_more, stand_two, low_text}
use Rattle.text_laws.proofs.Texts.{AllText, Nests, lines_utf8, append_nests}
use Rattle.workload.proofs.Lines.{local_word, sub_phrase, both_phrase, kernel_phrases, some_phrase, two_phrase}
use Rattle.workload.proofs.Lines.{all_phrase, either_phrase, group_phrases, workload_phrases, opened, header}

-- ---- digits

digit_passes : (b : ℕ) → 48 ≤ b → b ≤ 57 → is_name_byte b ≡ true
digit_passes b low high = grind (arith, common_steps)

digits_pass : (ds : List ℕ) → AllDigits 10 ds → list_all is_name_byte ds ≡ true
digits_pass [] all = refl
digits_pass (d ∷ ds) all =
    let range = digit_from_value d all.0 in
    and_from (is_name_byte d) (list_all is_name_byte ds) (digit_passes d range.0 range.1) (digits_pass ds all.1)

-- the digits of a number may end a name
pub record AreDigits (d : List ℕ) : Type 0 where
  pub bytes : list_all is_name_byte d ≡ true
  pub utf8 : IsUtf8 d

pub decimal_digits : (k : ℕ) → k ≤ 4000 → AreDigits (decimal k)
decimal_digits k few =
    let numeral = decimal_is_IsNumeral k (omega (arith, few)) in
    record {
      bytes = digits_pass (decimal k) numeral.0.1;
      utf8 = IsUtf8-from_ascii (decimal k) (IsAscii-decimal k (omega (arith, few)));
    }

-- ---- phrases

-- a letter and digits
lettered : (b : ℕ) (d : List ℕ) → (is_name_byte b && true) ≡ true → IsUtf8 (58 ∷ (b ∷ [])) → AreDigits d
    → Stands (local_word (b ∷ d))
lettered b d plain low digits = (
  and_from (is_name_byte b) (list_all is_name_byte d) (and_parts (is_name_byte b) true plain).0 digits.bytes,
  IsUtf8-append (58 ∷ (b ∷ [])) d low digits.utf8,
)

pub sub_stands : (local : List ℕ) (p : Phrase) → Stands (local_word local) → Stands p → Stands (sub_phrase local p)
sub_stands local p first second =
    stands_call (codes "SubClassOf") (two (local_word local) p) refl refl (stand_two (local_word local) p first second)

module _ (d : List ℕ) (digits : AreDigits d) where
  a_stands : Stands (local_word (65 ∷ d))
  a_stands = lettered 65 d refl (low_text (codes ":A") refl) digits

  b_stands : Stands (local_word (66 ∷ d))
  b_stands = lettered 66 d refl (low_text (codes ":B") refl) digits

  c_stands : Stands (local_word (67 ∷ d))
  c_stands = lettered 67 d refl (low_text (codes ":C") refl) digits

  d_stands : Stands (local_word (68 ∷ d))
  d_stands = lettered 68 d refl (low_text (codes ":D") refl) digits

  r_stands : Stands (local_word (codes "r"))
  r_stands = (refl, low_text (codes ":r") refl)

  s_stands : Stands (local_word (codes "s"))
  s_stands = (refl, low_text (codes ":s") refl)

  number_stands : Stands (word (codes "2"))
  number_stands = (refl, low_text (codes "2") refl)

  some_stands : Stands (some_phrase d)
  some_stands =
      sub_stands (65 ∷ d) (call (codes "ObjectSomeValuesFrom") (two (local_word (codes "r")) (local_word (66 ∷ d))))
      a_stands
      (stands_call (codes "ObjectSomeValuesFrom") (two (local_word (codes "r")) (local_word (66 ∷ d))) refl refl
      (stand_two (local_word (codes "r")) (local_word (66 ∷ d)) r_stands b_stands))

  two_stands : Stands (two_phrase d)
  two_stands =
      sub_stands (65 ∷ d)
      (call (codes "ObjectMinCardinality") (three (word (codes "2")) (local_word (codes "s")) (local_word (66 ∷ d))))
      a_stands
      (stands_call (codes "ObjectMinCardinality")
      (three (word (codes "2")) (local_word (codes "s")) (local_word (66 ∷ d))) refl refl
      (stand_more (word (codes "2")) (two (local_word (codes "s")) (local_word (66 ∷ d))) number_stands
      (stand_two (local_word (codes "s")) (local_word (66 ∷ d)) s_stands b_stands)))

  all_stands : Stands (all_phrase d)
  all_stands =
      sub_stands (66 ∷ d) (call (codes "ObjectAllValuesFrom") (two (local_word (codes "r")) (local_word (67 ∷ d))))
      b_stands
      (stands_call (codes "ObjectAllValuesFrom") (two (local_word (codes "r")) (local_word (67 ∷ d))) refl refl
      (stand_two (local_word (codes "r")) (local_word (67 ∷ d)) r_stands c_stands))

  either_stands : Stands (either_phrase d)
  either_stands =
      sub_stands (67 ∷ d) (call (codes "ObjectUnionOf") (two (local_word (65 ∷ d)) (local_word (68 ∷ d)))) c_stands
      (stands_call (codes "ObjectUnionOf") (two (local_word (65 ∷ d)) (local_word (68 ∷ d))) refl refl
      (stand_two (local_word (65 ∷ d)) (local_word (68 ∷ d)) a_stands d_stands))

-- ---- lines

pub record LinesStand (ps : List Phrase) : Type 0 where
  pub bytes : all_can_stand ps ≡ true
  pub texts : AllText ps

no_lines : LinesStand []
no_lines = record { bytes = refl; texts = tt }

more_lines : (p : Phrase) (ps : List Phrase) → Stands p → LinesStand ps → LinesStand (p ∷ ps)
more_lines p ps first others = record {
  bytes = and_from (can_stand p) (all_can_stand ps) first.0 others.bytes;
  texts = (first.1, others.texts);
}

both_stand : (ps qs : List Phrase) → LinesStand ps → LinesStand qs → LinesStand (ps ++ qs)
both_stand [] qs first second = second
both_stand (p ∷ ps) qs first second =
    let here = and_parts (can_stand p) (all_can_stand ps) first.bytes in
    more_lines p (ps ++ qs) (here.0, first.texts.0)
    (both_stand ps qs (record { bytes = here.1; texts = first.texts.1 }) second)

pub short_word : (local : List ℕ) → can_stand (local_word local) ≡ true
    → list_all (λ b. nat_lt b 128) (58 ∷ local) ≡ true → Stands (local_word local)
short_word local plain low = (plain, low_text (58 ∷ local) low)

kernel_name : (v w : List ℕ) → Stands (local_word v) → Stands (local_word w) → Stands (sub_phrase v (local_word w))
kernel_name v w first second = sub_stands v (local_word w) first second

kernel_both : (u v w : List ℕ) → Stands (local_word u) → Stands (local_word v) → Stands (local_word w)
    → Stands (sub_phrase u (both_phrase v w))
kernel_both u v w first second third =
    sub_stands u (both_phrase v w) first
    (stands_call (codes "ObjectIntersectionOf") (two (local_word v) (local_word w)) refl refl
    (stand_two (local_word v) (local_word w) second third))

kernel_stands : LinesStand kernel_phrases
kernel_stands =
    let q0 : Stands (local_word (codes "Q0")) = short_word (codes "Q0") refl refl in
    let q1 : Stands (local_word (codes "Q1")) = short_word (codes "Q1") refl refl in
    let q2 : Stands (local_word (codes "Q2")) = short_word (codes "Q2") refl refl in
    let q3 : Stands (local_word (codes "Q3")) = short_word (codes "Q3") refl refl in
    let p0 : Stands (local_word (codes "P0")) = short_word (codes "P0") refl refl in
    let p1 : Stands (local_word (codes "P1")) = short_word (codes "P1") refl refl in
    let p2 : Stands (local_word (codes "P2")) = short_word (codes "P2") refl refl in
    let roles : Stands (call (codes "SubObjectPropertyOf") (two (local_word (codes "s")) (local_word (codes "r")))) =
    stands_call (codes "SubObjectPropertyOf") (two (local_word (codes "s")) (local_word (codes "r"))) refl refl
    (stand_two (local_word (codes "s")) (local_word (codes "r")) (short_word (codes "s") refl refl)
    (short_word (codes "r") refl refl)) in
    more_lines _ _ (kernel_name (codes "Q0") (codes "Q1") q0 q1)
    (more_lines _ _ (kernel_both (codes "Q0") (codes "Q1") (codes "P0") q0 q1 p0)
    (more_lines _ _ (kernel_name (codes "Q1") (codes "Q2") q1 q2)
    (more_lines _ _ (kernel_both (codes "Q1") (codes "Q2") (codes "P1") q1 q2 p1)
    (more_lines _ _ (kernel_name (codes "Q2") (codes "Q3") q2 q3)
    (more_lines _ _ (kernel_both (codes "Q2") (codes "Q3") (codes "P2") q2 q3 p2)
    (more_lines _ _ roles no_lines))))))

group_stands : (k : ℕ) → AreDigits (decimal k) → LinesStand (group_phrases k)
group_stands k digits =
    let d : List ℕ = decimal k in
    more_lines (some_phrase d) (two_phrase d ∷ all_phrase d ∷ either_phrase d ∷ []) (some_stands d digits)
    (more_lines (two_phrase d) (all_phrase d ∷ either_phrase d ∷ []) (two_stands d digits)
    (more_lines (all_phrase d) (either_phrase d ∷ []) (all_stands d digits)
    (more_lines (either_phrase d) [] (either_stands d digits) no_lines)))

pub lines_stand : (n : ℕ) → n ≤ 4000 → LinesStand (workload_phrases n)
lines_stand zero few = kernel_stands
lines_stand (suc n) few =
    both_stand (workload_phrases n) (group_phrases (n + 1)) (lines_stand n (omega (arith, few)))
    (group_stands (n + 1) (decimal_digits (n + 1) (omega (arith, few))))

-- ---- UTF-8

pub opened_utf8 : (ps : List Phrase) → AllText ps → IsUtf8 (opened (lines_text ps))
opened_utf8 ps h =
    IsUtf8-append header (lines_text ps ++ (41 ∷ (10 ∷ []))) (low_text header refl)
    (IsUtf8-append (lines_text ps) (41 ∷ (10 ∷ [])) (lines_utf8 ps h) (low_text (41 ∷ (10 ∷ [])) refl))

-- ---- brackets

kernel_nests : (n : ℕ) → Nests n kernel_phrases
kernel_nests n = omega arith

group_nests : (k n : ℕ) → Nests n (group_phrases k)
group_nests k n = omega arith

pub lines_nest : (n m : ℕ) → Nests m (workload_phrases n)
lines_nest zero m = kernel_nests m
lines_nest (suc n) m = append_nests m (workload_phrases n) (group_phrases (n + 1)) (lines_nest n m) (group_nests (n + 1))
