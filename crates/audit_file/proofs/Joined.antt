-- The lines of texts that are put together.
use Rattle.std.proofs.Common.{◌≡◌, ℕ, ◌<◌, Bool, true, false, List, [], ◌∷◌, ◌++◌, length, map, refl, ap, sym, ◌∙◌}
use Rattle.std.proofs.Common.{arith, append_assoc}
use Rattle.std.specs.Prelude.{nat_eq}
use Rattle.std.specs.List.{slice_split, onto_first}
use Rattle.std.specs.Str.Lines.{strip_carriage_return}
use Rattle.std.proofs.lemmas.Bool.{and_from}
use Rattle.std.proofs.lemmas.Grind.{flat_map-append}
use Rattle.std.proofs.lemmas.List.{append-nil, append_cancel_right, map-append}
use Rattle.std.proofs.lemmas.List.Splits.{slice_split-cons_yes, slice_split-cons_no, length-slice_split}
use Rattle.certificate_lines.specs.Lines.{lines}
use Rattle.certificate_lines.specs.Written.{fed, text_of, is_line}
use Rattle.certificate_lines.proofs.ReadBack.{lines_read}
use Rattle.audit_file.proofs.Cut.{end_row}

onto_append : {X : Type 0} (x : X) (as_ bs : List (List X)) → 0 < length as_
    → onto_first x (as_ ++ bs) ≡ onto_first x as_ ++ bs
onto_append x [] bs some = absurd (omega (arith, some))
onto_append x (a ∷ as_) bs some = refl

split_joined : {X : Type 0} (p : X → Bool) (y : X) (xs ys : List X) → p y ≡ true
    → slice_split p (xs ++ y ∷ ys) ≡ slice_split p xs ++ slice_split p ys
split_joined p y [] ys is = slice_split-cons_yes p y ys is
split_joined p y (x ∷ xs) ys is = by (p x) refl (split_joined p y xs ys is)
  where
    by : (b : Bool) → p x ≡ b → slice_split p (xs ++ y ∷ ys) ≡ slice_split p xs ++ slice_split p ys
        → slice_split p (x ∷ (xs ++ y ∷ ys)) ≡ slice_split p (x ∷ xs) ++ slice_split p ys
    by true here rest =
        slice_split-cons_yes p x (xs ++ y ∷ ys) here ∙ ap (λ parts. [] ∷ parts) rest
        ∙ sym (ap (λ parts. parts ++ slice_split p ys) (slice_split-cons_yes p x xs here))
    by false here rest =
        slice_split-cons_no p x (xs ++ y ∷ ys) here
        ∙ ap (onto_first x) rest
        ∙ onto_append x (slice_split p xs) (slice_split p ys) (omega (arith, length-slice_split p xs))
        ∙ sym (ap (λ parts. parts ++ slice_split p ys) (slice_split-cons_no p x xs here))

pub lines_joined : (v t : List ℕ) → lines (v ++ 10 ∷ t) ≡ lines v ++ lines t
lines_joined v t =
    ap (map strip_carriage_return) (split_joined (λ b. nat_eq b 10) 10 v t refl)
    ∙ map-append strip_carriage_return (slice_split (λ b. nat_eq b 10) v) (slice_split (λ b. nat_eq b 10) t)

line_alone : (l : List ℕ) → is_line l ≡ true → lines l ≡ l ∷ []
line_alone l is =
    append_cancel_right (lines l) (l ∷ []) ([] ∷ [])
    (sym (lines_joined l []) ∙ ap lines (sym (append-nil (fed l)))
    ∙ lines_read (l ∷ []) (and_from (is_line l) true is refl))

-- a line, and what follows it
pub fed_first : (l t : List ℕ) → is_line l ≡ true → lines (fed l ++ t) ≡ l ∷ lines t
fed_first l t is =
    ap lines (append_assoc l (10 ∷ []) t) ∙ lines_joined l t ∙ ap (λ ls. ls ++ lines t) (line_alone l is)

-- a text of lines ends with a line feed
fed_last : (ls : List (List ℕ)) (l : List ℕ) → (w : List ℕ) × (text_of (l ∷ ls) ≡ w ++ 10 ∷ [])
fed_last [] l = (l, append-nil (fed l))
fed_last (m ∷ ms) l =
    let more = fed_last ms m in
    (fed l ++ more.0, ap (λ t. fed l ++ t) more.1 ∙ sym (append_assoc (fed l) more.0 (10 ∷ [])))

together : (w t : List ℕ) → (w ++ 10 ∷ [] ++ (end_row ++ 10 ∷ [] ++ [])) ++ t ≡ w ++ 10 ∷ (end_row ++ 10 ∷ t)
together w t = simp append_assoc

-- the lines of a text whose last line is `end`
pub record EndsWithEnd (text : List ℕ) : Type 0 where
  pub rows : List (List ℕ)
  pub are : (t : List ℕ) → lines (text ++ t) ≡ rows ++ end_row ∷ lines t

pub ends_with_end : (l : List ℕ) (ls : List (List ℕ)) → EndsWithEnd (text_of ((l ∷ ls) ++ end_row ∷ []))
ends_with_end l ls =
    let w = fed_last ls l in
    record {
      rows = lines w.0;
      are = λ t.
          ap (λ x. lines (x ++ t)) (flat_map-append fed (l ∷ ls) (end_row ∷ []))
          ∙ ap (λ x. lines (x ++ (end_row ++ 10 ∷ [] ++ []) ++ t)) w.1
          ∙ ap lines (together w.0 t)
          ∙ lines_joined w.0 (end_row ++ 10 ∷ t)
          ∙ ap (λ ls'. lines w.0 ++ ls') (lines_joined end_row t);
    }
