-- Whitespace and comments exclude a byte that is neither.
use Rattle.std.proofs.Common.{◌≡◌, ◌≢◌, ◌⊎◌, ℕ, suc, ◌<◌, ◌≤◌, Bool, true, false, List, [], ◌∷◌, ◌++◌, inl, inr, length}
use Rattle.std.proofs.Common.{get_or, take, drop, refl, ap, sym, ◌∙◌, subst, arith, append_assoc, drop-cons}
use Rattle.std.specs.List.{list_all}
use Rattle.std.proofs.lemmas.Bool.{and_parts}
use Rattle.std.proofs.lemmas.List.{get_or-take, length-take-le, take-append-drop, take-take}
use Rattle.ofn_tree.specs.Lexemes.{is_whitespace, is_comment_byte}
use Rattle.ofn_tree.specs.TokenLaws.{EndsLine, IsGap, nothing, space, comment}
use Rattle.job_inputs.specs.Rest.{IsStray}
use Rattle.job_inputs.specs.Laws.{GapsHaveNoStray, StraysAreUnique}

-- ---- how a gap that is not empty begins

-- a comment, and what stands behind it
record BeginsComment (at_end : Bool) (bytes : List ℕ) : Type 0 where
  text : List ℕ
  rest : List ℕ
  is : bytes ≡ text ++ rest
  all : list_all is_comment_byte text ≡ true
  ends : EndsLine at_end rest
  gap : IsGap at_end rest

abbrev Begins : Bool → ℕ → List ℕ → Type 0
Begins at_end b bytes = ((is_whitespace b ≡ true) × IsGap at_end bytes) ⊎ ((b ≡ 35) × BeginsComment at_end bytes)

begins : (at_end : Bool) (b : ℕ) (bytes whole : List ℕ) → whole ≡ b ∷ bytes → IsGap at_end whole → Begins at_end b bytes
begins at_end b bytes _ is nothing = absurd (cc is)
begins at_end b bytes _ is (space c rest white gap) =
    let first : c ≡ b = cc is in
    let others : rest ≡ bytes = cc is in
    inl (subst (λ x. is_whitespace x ≡ true) first white, subst (IsGap at_end) others gap)
begins at_end b bytes _ is (comment text rest all ends gap) =
    let first : 35 ≡ b = cc is in
    let others : text ++ rest ≡ bytes = cc is in
    inr (sym first, record { text = text; rest = rest; is = sym others; all = all; ends = ends; gap = gap })

-- ---- a comment ends at one place

first_same : (a b : ℕ) (xs ys : List ℕ) → a ∷ xs ≡ b ∷ ys → a ≡ b
first_same a b xs ys e = cc e

rest_same : (a b : ℕ) (xs ys : List ℕ) → a ∷ xs ≡ b ∷ ys → xs ≡ ys
rest_same a b xs ys e = cc e

no_byte : (x : ℕ) → is_comment_byte x ≡ true → is_comment_byte x ≡ false → ⊥
no_byte x yes' no' = let clash : true ≡ false = sym yes' ∙ no' in absurd (cc clash)

same_end : (at_end : Bool) (t u : List ℕ) (x : ℕ) (rest more : List ℕ) → t ++ x ∷ rest ≡ u ++ more
    → list_all is_comment_byte t ≡ true → is_comment_byte x ≡ false → list_all is_comment_byte u ≡ true
    → EndsLine at_end more → more ≡ x ∷ rest
same_end at_end [] [] x rest more is all ends others closes = sym is
same_end at_end [] (y ∷ us) x rest more is all ends others closes =
    absurd (no_byte x
    (subst (λ b. is_comment_byte b ≡ true) (sym (first_same x y rest (us ++ more) is))
    ((and_parts (is_comment_byte y) (list_all is_comment_byte us) others).0))
    ends)
same_end at_end (y ∷ ts) [] x rest [] is all ends others closes = absurd (cc is)
same_end at_end (y ∷ ts) [] x rest (z ∷ zs) is all ends others closes =
    absurd (no_byte y ((and_parts (is_comment_byte y) (list_all is_comment_byte ts) all).0)
    (subst (λ b. is_comment_byte b ≡ false) (sym (first_same y z (ts ++ x ∷ rest) zs is)) closes))
same_end at_end (y ∷ ts) (z ∷ us) x rest more is all ends others closes =
    same_end at_end ts us x rest more (rest_same y z (ts ++ x ∷ rest) (us ++ more) is)
    ((and_parts (is_comment_byte y) (list_all is_comment_byte ts) all).1) ends
    ((and_parts (is_comment_byte z) (list_all is_comment_byte us) others).1) closes

-- ---- behind a gap stands no other byte of a gap

white_is_no_mark : (c : ℕ) → is_whitespace c ≡ true → c ≡ 35 → ⊥
white_is_no_mark c white is =
    let clash : false ≡ true = subst (λ x. is_whitespace x ≡ true) is white in absurd (cc clash)

module _ (at_end : Bool) (b : ℕ) (rest : List ℕ) (no_space : is_whitespace b ≡ false) (no_mark : b ≢ 35) where
  excluded : (front : List ℕ) → IsGap false front → IsGap at_end (front ++ b ∷ rest) → ⊥
  excluded _ nothing whole =
      elim (begins at_end b rest (b ∷ rest) refl whole) [
        | inl white ↦ let clash : true ≡ false = sym white.0 ∙ no_space in absurd (cc clash)
        | inr mark ↦ absurd (no_mark mark.0)
      ]
  excluded _ (space c r white gap) whole =
      elim (begins at_end c (r ++ b ∷ rest) (c ∷ (r ++ b ∷ rest)) refl whole) [
        | inl also ↦ excluded r gap also.1
        | inr mark ↦ absurd (white_is_no_mark c white mark.0)
      ]
  excluded _ (comment text [] all ends gap) whole = let clash : false ≡ true = ends in absurd (cc clash)
  excluded _ (comment text (x ∷ r) all ends gap) whole =
      elim (begins at_end 35 ((text ++ x ∷ r) ++ b ∷ rest) (35 ∷ ((text ++ x ∷ r) ++ b ∷ rest)) refl whole) [
        | inl white ↦ let clash : false ≡ true = white.0 in absurd (cc clash)
        | inr mark ↦
            let other = mark.1 in
            let apart : text ++ x ∷ (r ++ b ∷ rest) ≡ other.text ++ other.rest =
            sym (append_assoc text (x ∷ r) (b ∷ rest)) ∙ other.is in
            let same : other.rest ≡ x ∷ (r ++ b ∷ rest) =
            same_end at_end text other.text x (r ++ b ∷ rest) other.rest apart all ends other.all other.ends in
            excluded (x ∷ r) gap (subst (IsGap at_end) same other.gap)
      ]

-- a text at a place: what stands before it, its byte, and the rest
split_at : (text : List ℕ) (place : ℕ) → place < length text
    → text ≡ take place text ++ get_or text place 0 ∷ drop (suc place) text
split_at text place within =
    sym (take-append-drop place text) ∙ ap (λ l. take place text ++ l) (drop-cons text place 0 within)

no_stray : (at_end : Bool) (text : List ℕ) (place : ℕ) → IsGap at_end text → IsStray text place → ⊥
no_stray at_end text place gap s =
    excluded at_end (get_or text place 0) (drop (suc place) text) s.no_space s.no_comment (take place text) s.before
    (subst (IsGap at_end) (split_at text place s.within) gap)

pub gaps_have_no_stray : GapsHaveNoStray
gaps_have_no_stray text place gap s = no_stray true text place gap s

-- ---- one place

-- a stray byte before the end of a front is one in the front
in_front : (text : List ℕ) (k n : ℕ) → k < n → n ≤ length text → IsStray text k → IsStray (take n text) k
in_front text k n less within s =
    let byte : get_or (take n text) k 0 ≡ get_or text k 0 = get_or-take n text k 0 less in
    record {
      within = omega (arith, length-take-le n text within, less);
      before = subst (IsGap false) (sym (take-take k n text (omega arith))) s.before;
      no_space = ap is_whitespace byte ∙ s.no_space;
      no_comment = λ is. s.no_comment (sym byte ∙ is);
    }

none_before : (text : List ℕ) (k n : ℕ) → k < n → IsStray text k → IsStray text n → ⊥
none_before text k n less s t =
    no_stray false (take n text) k t.before (in_front text k n less (let within = t.within in omega arith) s)

pub strays_are_unique : StraysAreUnique
strays_are_unique text place other s t =
    elim (order place other) [
      | inl less ↦ absurd (none_before text place other less s t)
      | inr (inl more) ↦ absurd (none_before text other place more t s)
      | inr (inr same) ↦ same
    ]
  where
    order : (k n : ℕ) → (k < n) ⊎ ((n < k) ⊎ (k ≡ n))
    order k n = grind arith
