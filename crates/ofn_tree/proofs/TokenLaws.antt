-- Between the tokens of a reading there are only whitespace and comments, and no token could be longer.
use Rattle.std.proofs.Common.{◌≡◌, ℕ, zero, suc, ◌+◌, ◌-◌, ◌<◌, ◌≤◌, Bool, true, false, cond, not, ◌||◌, ◌⊎◌, inl, inr}
use Rattle.std.proofs.Common.{List, [], ◌∷◌, ◌++◌, length, get_or, take, drop, Option, Some, None, Result, Ok, Err}
use Rattle.std.proofs.Common.{refl, ap, sym, ◌∙◌, subst, arith, length-drop, length-append, nat_eq, add-one, one-add}
use Rattle.std.proofs.lemmas.Grind.{common_steps}
use Rattle.std.proofs.lemmas.List.Folds.{length-prefix_len}
use Rattle.std.proofs.lemmas.List.{drop-drop, take_all, length-take-le, take-append-drop}
use Rattle.std.proofs.lemmas.Str.{utf8_valid_len_le}
use Rattle.std.proofs.Math.Seq.{take-add}
use Rattle.std.specs.List.{prefix_len, list_all}
use Rattle.std.specs.Str.Lossy.{utf8_valid_len}
use Rattle.std.proofs.lemmas.Bool.{and_from, and_parts}
use Rattle.shq_base.proofs.Bools.{false_from_not}
use Rattle.ofn_tree.specs.declared.token.Kind.TheVariants.{OpenBracket, CloseBracket, Equals, Iri, Tag, Carets}
use Rattle.ofn_tree.specs.declared.fault.TextFault.{TextFault}
use Rattle.ofn_tree.specs.Token.{PlainToken}
use Rattle.ofn_tree.specs.Lexemes.{Lexeme, Cut, gap, token, wrong, unended, cut_short, iri_at, Quoted, closes, breaks}
use Rattle.ofn_tree.specs.Lexemes.{runs_on, longer, quoted, string_at, tag_at, carets_at, name_at, sign_at, cut_at}
use Rattle.ofn_tree.specs.Lexemes.{is_whitespace, is_comment_byte, is_iri_byte, is_tag_byte, is_name_byte, line_behind}
use Rattle.ofn_tree.specs.Lexemes.{Piece, whole, faulty, end_pieces, pieces_with, pieces_from, mark_len, utf8_front}
use Rattle.ofn_tree.specs.Lexemes.{bad_byte_line, front_pieces}
use Rattle.ofn_tree.specs.Document.{Met, DocumentTokens, nothing_met, is_last, met_after, document_front, with_token}
use Rattle.ofn_tree.specs.Document.{document, reading}
use Rattle.ofn_tree.specs.Spans.{around, width}
use Rattle.ofn_tree.specs.TokenLaws.{EndsLine, IsGap, nothing, space, comment, bytes_between, HaveGaps, HaveOnlyGaps}
use Rattle.ofn_tree.specs.TokenLaws.{is_quotable, BeginsWith, IsLongest, AreLongest}
use Rattle.ofn_tree.proofs.Slices.{read_ok}

-- ---- the longest front of bytes that pass a test

passes : (p : ℕ → Bool) (bs : List ℕ) → list_all p (take (prefix_len p bs) bs) ≡ true
passes p [] = refl
passes p (b ∷ bs) =
    elim (p b) as (λ v. p b ≡ v → list_all p (take (cond v (1 + prefix_len p bs) 0) (b ∷ bs)) ≡ true) [
      | true ↦ λ is. rw one-add (and_from (p b) (list_all p (take (prefix_len p bs) bs)) is (passes p bs))
      | false ↦ λ is. refl
    ] refl

prefix_first : (p : ℕ → Bool) (b : ℕ) (bs : List ℕ) → p b ≡ true → prefix_len p (b ∷ bs) ≡ 1 + prefix_len p bs
prefix_first p b bs is = ap (λ v. cond v (1 + prefix_len p bs) 0) is

front_head : (n b c : ℕ) (bs text : List ℕ) → take (suc n) (b ∷ bs) ≡ c ∷ text → (b ≡ c) × (take n bs ≡ text)
front_head n b c bs text is = (cc, cc)

-- bytes that all pass stand within the longest front that passes
within_front : (p : ℕ → Bool) (bs text : List ℕ) → list_all p text ≡ true → take (length text) bs ≡ text
    → length text ≤ prefix_len p bs
within_front p bs [] all is = omega arith
within_front p [] (c ∷ text) all is = cc
within_front p (b ∷ bs) (c ∷ text) all is =
    let both = front_head (length text) b c bs text is in
    let first : p b ≡ true = ap p both.0 ∙ (and_parts (p c) (list_all p text) all).0 in
    let rest = within_front p bs text (and_parts (p c) (list_all p text) all).1 both.1 in
    omega (arith, prefix_first p b bs first, rest)

-- what stands before other bytes
front_of : (xs ys bs : List ℕ) → take (length (xs ++ ys)) bs ≡ xs ++ ys → take (length xs) bs ≡ xs
front_of [] ys bs is = refl
front_of (x ∷ xs) ys [] is = cc
front_of (x ∷ xs) ys (b ∷ bs) is =
    let both = front_head (length (xs ++ ys)) b x bs (xs ++ ys) is in
    λ i. both.0 i ∷ front_of xs ys bs both.1 i

-- one byte more than n
front_more : (bs : List ℕ) (n b : ℕ) → n < length bs → get_or bs n 0 ≡ b → take (n + 1) bs ≡ take n bs ++ b ∷ []
front_more [] n b inside is = absurd (omega (arith, inside))
front_more (x ∷ bs) zero b inside is = ap (λ (y : ℕ). y ∷ []) is
front_more (x ∷ bs) (suc n) b inside is =
    rw add-one
    (ap (λ (l : List ℕ). x ∷ l) (sym (ap (λ m. take m bs) (add-one n)) ∙ front_more bs n b (omega (arith, inside)) is))

-- ---- strings

-- a text that may stand in a string is one that its closing quotation mark ends
quotable_closes : (escaped : Bool) (bs text : List ℕ) → is_quotable escaped text ≡ true
    → take (length (text ++ 34 ∷ [])) bs ≡ text ++ 34 ∷ [] → quoted escaped bs ≡ closes (length text)
quotable_closes true bs [] ok is = cc
quotable_closes false [] [] ok is = cc
quotable_closes false (b ∷ bs) [] ok is =
    let both = front_head 0 b 34 bs [] is in
    ap (λ c. cond (nat_eq c 34) (closes 0) (longer (quoted (nat_eq c 92) bs))) both.0
quotable_closes true [] (c ∷ text) ok is = cc
quotable_closes false [] (c ∷ text) ok is = cc
quotable_closes true (b ∷ bs) (c ∷ text) ok is =
    let both = front_head (length (text ++ 34 ∷ [])) b c bs (text ++ 34 ∷ []) is in
    let may : (nat_eq b 34 || nat_eq b 92) ≡ true =
    ap (λ d. nat_eq d 34 || nat_eq d 92) both.0
    ∙ (and_parts (nat_eq c 34 || nat_eq c 92) (is_quotable false text) ok).0 in
    let rest =
    quotable_closes false bs text (and_parts (nat_eq c 34 || nat_eq c 92) (is_quotable false text) ok).1 both.1 in
    ap (λ v. cond v (longer (quoted false bs)) breaks) may ∙ ap longer rest ∙ ap closes (add-one (length text))
quotable_closes false (b ∷ bs) (c ∷ text) ok is =
    let both = front_head (length (text ++ 34 ∷ [])) b c bs (text ++ 34 ∷ []) is in
    let may : nat_eq b 34 ≡ false =
    ap (λ d. nat_eq d 34) both.0
    ∙ false_from_not (nat_eq c 34) (and_parts (not (nat_eq c 34)) (is_quotable (nat_eq c 92) text) ok).0 in
    let rest =
    quotable_closes (nat_eq c 92) bs text (and_parts (not (nat_eq c 34)) (is_quotable (nat_eq c 92) text) ok).1
    both.1 in
    ap (λ v. cond v (closes 0) (longer (quoted (nat_eq b 92) bs))) may
    ∙ ap (λ d. longer (quoted (nat_eq d 92) bs)) both.0 ∙ ap longer rest ∙ ap closes (add-one (length text))

-- the bytes before the quotation mark that closes a string may stand in it
abbrev QuotedStands : Bool → List ℕ → Quoted → Type 0
QuotedStands escaped bs (closes n) = (is_quotable escaped (take n bs) ≡ true) × (take (n + 1) bs ≡ take n bs ++ 34 ∷ [])
QuotedStands escaped bs breaks = Unit {0}
QuotedStands escaped bs runs_on = Unit {0}

take_more : (n b : ℕ) (bs : List ℕ) → take (n + 1) (b ∷ bs) ≡ b ∷ take n bs
take_more n b bs = ap (λ m. take m (b ∷ bs)) (add-one n)

stands_escaped : (b : ℕ) (bs : List ℕ) (q : Quoted) → (nat_eq b 34 || nat_eq b 92) ≡ true → QuotedStands false bs q
    → QuotedStands true (b ∷ bs) (longer q)
stands_escaped b bs breaks may s = tt
stands_escaped b bs runs_on may s = tt
stands_escaped b bs (closes n) may s = (
  rw add-one (and_from _ _ may s.0),
  take_more (n + 1) b bs ∙ ap (λ (l : List ℕ). b ∷ l) s.1
      ∙ sym (ap (λ (l : List ℕ). l ++ 34 ∷ []) (take_more n b bs)),
)

stands_plain : (b : ℕ) (bs : List ℕ) (q : Quoted) → nat_eq b 34 ≡ false → QuotedStands (nat_eq b 92) bs q
    → QuotedStands false (b ∷ bs) (longer q)
stands_plain b bs breaks may s = tt
stands_plain b bs runs_on may s = tt
stands_plain b bs (closes n) may s = (
  rw add-one (and_from _ _ (ap not may) s.0),
  take_more (n + 1) b bs ∙ ap (λ (l : List ℕ). b ∷ l) s.1
      ∙ sym (ap (λ (l : List ℕ). l ++ 34 ∷ []) (take_more n b bs)),
)

same_number : (b n : ℕ) → nat_eq b n ≡ true → b ≡ n
same_number b n h = grind (arith, common_steps, h)

quoted_stands : (escaped : Bool) (bs : List ℕ) → QuotedStands escaped bs (quoted escaped bs)
quoted_stands true [] = tt
quoted_stands false [] = tt
quoted_stands true (b ∷ bs) =
    elim (nat_eq b 34 || nat_eq b 92) as
    (λ v. (nat_eq b 34 || nat_eq b 92) ≡ v → QuotedStands true (b ∷ bs) (cond v (longer (quoted false bs)) breaks)) [
      | true ↦ λ is. stands_escaped b bs (quoted false bs) is (quoted_stands false bs)
      | false ↦ λ is. tt
    ] refl
quoted_stands false (b ∷ bs) =
    elim (nat_eq b 34) as
    (λ v. nat_eq b 34 ≡ v → QuotedStands false (b ∷ bs) (cond v (closes 0) (longer (quoted (nat_eq b 92) bs)))) [
      | true ↦ λ is. (refl, ap (λ (c : ℕ). c ∷ []) (same_number b 34 is))
      | false ↦ λ is. stands_plain b bs (quoted (nat_eq b 92) bs) is (quoted_stands (nat_eq b 92) bs)
    ] refl

-- ---- what stands at the front of some bytes

-- whitespace, or a comment, of so many bytes after the first
abbrev IsGapPiece : ℕ → List ℕ → ℕ → Type 0
IsGapPiece b bs more = ((is_whitespace b ≡ true) × (more ≡ 0)) ⊎ ((b ≡ 35) × (more ≡ prefix_len is_comment_byte bs))

-- a token that begins with no whitespace, and could not be longer
record IsWhole (b : ℕ) (bs : List ℕ) (x : Lexeme) : Type 0 where
  fresh : is_whitespace b ≡ false
  size : around x.kind + (length x.text + around x.kind) ≡ x.more + 1
  stands : BeginsWith (b ∷ bs) x.kind x.text
  longest : (other : List ℕ) → BeginsWith (b ∷ bs) x.kind other → length other ≤ length x.text

abbrev CutLies : ℕ → List ℕ → Cut → Type 0
CutLies b bs (gap more) = IsGapPiece b bs more
CutLies b bs (token x) = IsWhole b bs x
CutLies b bs wrong = Unit {0}
CutLies b bs unended = Unit {0}

short-lies : (b : ℕ) (bs rest : List ℕ) → CutLies b bs (cut_short rest)
short-lies b bs [] = tt
short-lies b bs (x ∷ rest) = tt

fresh_byte : (b n : ℕ) → nat_eq b n ≡ true → is_whitespace n ≡ false → is_whitespace b ≡ false
fresh_byte b n is fresh = ap is_whitespace (same_number b n is) ∙ fresh

open-lies : (b : ℕ) (bs : List ℕ) → nat_eq b 40 ≡ true → CutLies b bs (sign_at OpenBracket b)
open-lies b bs is = record {
  fresh = fresh_byte b 40 is refl;
  size = refl;
  stands = record { form = ap (λ (c : ℕ). c ∷ []) (same_number b 40 is); written = refl };
  longest = λ other w. omega (arith, ap length w.form);
}

close-lies : (b : ℕ) (bs : List ℕ) → nat_eq b 41 ≡ true → CutLies b bs (sign_at CloseBracket b)
close-lies b bs is = record {
  fresh = fresh_byte b 41 is refl;
  size = refl;
  stands = record { form = ap (λ (c : ℕ). c ∷ []) (same_number b 41 is); written = refl };
  longest = λ other w. omega (arith, ap length w.form);
}

equals-lies : (b : ℕ) (bs : List ℕ) → nat_eq b 61 ≡ true → CutLies b bs (sign_at Equals b)
equals-lies b bs is = record {
  fresh = fresh_byte b 61 is refl;
  size = refl;
  stands = record { form = ap (λ (c : ℕ). c ∷ []) (same_number b 61 is); written = refl };
  longest = λ other w. omega (arith, ap length w.form);
}

index_inside : (bs : List ℕ) (n : ℕ) → nat_eq (get_or bs n 0) 62 ≡ true → n < length bs
index_inside [] n h = cc
index_inside (b ∷ bs) zero h = omega arith
index_inside (b ∷ bs) (suc n) h = omega (arith, index_inside bs n h)

-- an IRI or a string is written in its first byte, its text and its last byte
closed : (b first last n : ℕ) (bs text : List ℕ) → b ≡ first → length text ≡ n → take (n + 1) bs ≡ text ++ last ∷ []
    → take (length (first ∷ (text ++ last ∷ []))) (b ∷ bs) ≡ first ∷ (text ++ last ∷ [])
closed b first last n bs text is len rest =
    let size : length (text ++ last ∷ []) ≡ n + 1 = omega (arith, length-append text (last ∷ []), len) in
    λ i. is i ∷ (ap (λ m. take m bs) size ∙ rest) i

iri-lies : (b : ℕ) (bs : List ℕ) (v : Bool) → nat_eq b 60 ≡ true
    → nat_eq (get_or bs (prefix_len is_iri_byte bs) 0) 62 ≡ v
    → CutLies b bs
    (cond v
    (token (record { kind = Iri; text = take (prefix_len is_iri_byte bs) bs; more = prefix_len is_iri_byte bs + 1 }))
    (cut_short (drop (prefix_len is_iri_byte bs) bs)))
iri-lies b bs false is ends = short-lies b bs (drop (prefix_len is_iri_byte bs) bs)
iri-lies b bs true is ends =
    let n = prefix_len is_iri_byte bs in
    let len : length (take n bs) ≡ n = length-prefix_len is_iri_byte bs in
    record {
      fresh = fresh_byte b 60 is refl;
      size = omega (arith, len);
      stands = record {
        form = passes is_iri_byte bs;
        written =
            closed b 60 62 n bs (take n bs) (same_number b 60 is) len
            (front_more bs n 62 (index_inside bs n ends) (same_number (get_or bs n 0) 62 ends));
      };
      longest =
          λ other w. omega (
            arith,
            len,
            within_front is_iri_byte bs other w.form
                (front_of other (62 ∷ []) bs
                ((front_head (length (other ++ 62 ∷ [])) b 60 bs (other ++ 62 ∷ []) w.written).1)),
          );
    }

abbrev closing_place : Quoted → ℕ
closing_place (closes n) = n
closing_place breaks = 0
closing_place runs_on = 0

string-lies : (b : ℕ) (bs : List ℕ) (q : Quoted) → nat_eq b 34 ≡ true → quoted false bs ≡ q
    → CutLies b bs (string_at q bs)
string-lies b bs breaks is ends = tt
string-lies b bs runs_on is ends = tt
string-lies b bs (closes n) is ends =
    let s : QuotedStands false bs (closes n) = subst (QuotedStands false bs) ends (quoted_stands false bs) in
    let len : length (take n bs) ≡ n = closed_len bs n s.1 in
    record {
      fresh = fresh_byte b 34 is refl;
      size = omega (arith, len);
      stands = record { form = s.0; written = closed b 34 34 n bs (take n bs) (same_number b 34 is) len s.1 };
      longest = λ other w.
          let same : closes (length other) ≡ closes n =
          sym (quotable_closes false bs other w.form
          ((front_head (length (other ++ 34 ∷ [])) b 34 bs (other ++ 34 ∷ []) w.written).1))
          ∙ ends in
          omega (arith, len, ap closing_place same);
    }
  where
    closed_len : (xs : List ℕ) (m : ℕ) → take (m + 1) xs ≡ take m xs ++ 34 ∷ [] → length (take m xs) ≡ m
    closed_len [] zero h = refl
    closed_len [] (suc m) h =
        let clash : ◌≡◌ {A = List ℕ} [] (34 ∷ []) = sym (ap (λ k. take {A = ℕ} k []) (add-one (suc m))) ∙ h in
        absurd (cc clash)
    closed_len (x ∷ xs) zero h = refl
    closed_len (x ∷ xs) (suc m) h =
        ap suc (closed_len xs m
        (ap (λ k. take k xs) (add-one m)
        ∙ (front_head (suc m) x x xs (take m xs ++ 34 ∷ []) (sym (ap (λ k. take k (x ∷ xs)) (add-one (suc m))) ∙ h)).1))

tag-lies : (b : ℕ) (bs : List ℕ) (v : Bool) → nat_eq b 64 ≡ true → nat_eq (prefix_len is_tag_byte bs) 0 ≡ v
    → CutLies b bs (cond v (cut_short bs)
    (token (record { kind = Tag; text = b ∷ take (prefix_len is_tag_byte bs) bs; more = prefix_len is_tag_byte bs })))
tag-lies b bs true is none = short-lies b bs bs
tag-lies b bs false is none =
    let n = prefix_len is_tag_byte bs in
    let len : length (take n bs) ≡ n = length-prefix_len is_tag_byte bs in
    record {
      fresh = fresh_byte b 64 is refl;
      size = omega (arith, len);
      stands = record {
        form = record {
          rest = take n bs;
          made = ap (λ (c : ℕ). c ∷ take n bs) (same_number b 64 is);
          some = omega (arith, len, some_of n none);
          bytes = passes is_tag_byte bs;
        };
        written = ap (λ m. b ∷ take m bs) len;
      };
      longest = λ other w.
          let there : take (length (64 ∷ w.form.rest)) (b ∷ bs) ≡ 64 ∷ w.form.rest =
          ap (λ (l : List ℕ). take (length l) (b ∷ bs)) (sym w.form.made) ∙ w.written ∙ w.form.made in
          let rest =
          within_front is_tag_byte bs w.form.rest w.form.bytes
          ((front_head (length w.form.rest) b 64 bs w.form.rest there).1) in
          omega (arith, len, rest, ap length w.form.made);
    }
  where
    some_of : (m : ℕ) → nat_eq m 0 ≡ false → 1 ≤ m
    some_of m h = grind (arith, common_steps, h)

carets-lies : (b : ℕ) (bs : List ℕ) (v : Bool) → nat_eq b 94 ≡ true → nat_eq (get_or bs 0 0) 94 ≡ v
    → CutLies b bs (cond v (token (record { kind = Carets; text = b ∷ take 1 bs; more = 1 })) (cut_short bs))
carets-lies b bs false is second = short-lies b bs bs
carets-lies b [] true is second = cc
carets-lies b (c ∷ bs) true is second = record {
  fresh = fresh_byte b 94 is refl;
  size = refl;
  stands = record { form = λ i. same_number b 94 is i ∷ (same_number c 94 second i ∷ []); written = refl };
  longest = λ other w. omega (arith, ap length w.form);
}

name-lies : (b : ℕ) (bs : List ℕ) → is_name_byte b ≡ true → CutLies b bs (name_at (prefix_len is_name_byte bs) b bs)
name-lies b bs is =
    let n = prefix_len is_name_byte bs in
    let len : length (take n bs) ≡ n = length-prefix_len is_name_byte bs in
    record {
      fresh = grind (arith, common_steps, is);
      size = omega (arith, len);
      stands = record {
        form = (omega arith, and_from (is_name_byte b) (list_all is_name_byte (take n bs)) is (passes is_name_byte bs));
        written = ap (λ m. b ∷ take m bs) len;
      };
      longest =
          λ other w. omega
          (arith, len, within_front is_name_byte (b ∷ bs) other w.form.1 w.written, prefix_first is_name_byte b bs is);
    }

either : (b : ℕ) (bs : List ℕ) (v : Bool) (x y : Cut) → (v ≡ true → CutLies b bs x) → CutLies b bs y
    → CutLies b bs (cond v x y)
either b bs true x y first rest = first refl
either b bs false x y first rest = rest

cut-lies : (b : ℕ) (bs : List ℕ) → CutLies b bs (cut_at b bs)
cut-lies b bs =
    either b bs (is_whitespace b) (gap 0) _ (λ is. inl (is, refl))
    (either b bs (nat_eq b 35) (gap (prefix_len is_comment_byte bs)) _ (λ is. inr (same_number b 35 is, refl))
    (either b bs (nat_eq b 40) (sign_at OpenBracket b) _ (open-lies b bs)
    (either b bs (nat_eq b 41) (sign_at CloseBracket b) _ (close-lies b bs)
    (either b bs (nat_eq b 61) (sign_at Equals b) _ (equals-lies b bs)
    (either b bs (nat_eq b 60) (iri_at (prefix_len is_iri_byte bs) bs) _
    (λ is. iri-lies b bs (nat_eq (get_or bs (prefix_len is_iri_byte bs) 0) 62) is refl)
    (either b bs (nat_eq b 34) (string_at (quoted false bs) bs) _ (λ is. string-lies b bs (quoted false bs) is refl)
    (either b bs (nat_eq b 64) (tag_at (prefix_len is_tag_byte bs) b bs) _
    (λ is. tag-lies b bs (nat_eq (prefix_len is_tag_byte bs) 0) is refl)
    (either b bs (nat_eq b 94) (carets_at b bs) _ (λ is. carets-lies b bs (nat_eq (get_or bs 0 0) 94) is refl)
    (either b bs (is_name_byte b) (name_at (prefix_len is_name_byte bs) b bs) wrong (name-lies b bs) tt)))))))))

-- ---- pieces

-- a token stands after a gap
record Follows (front : List ℕ) (start : ℕ) (t : PlainToken) : Type 0 where
  before : start ≤ t.start
  gap : IsGap false (bytes_between front start t.start)
  first : ℕ
  rest : List ℕ
  here : drop t.start front ≡ first ∷ rest
  fresh : is_whitespace first ≡ false

abbrev PiecesLie : List ℕ → ℕ → List Piece → Type 0
PiecesLie front start [] = IsGap true (drop start front)
PiecesLie front start (faulty fault ∷ ps) = Unit {0}
PiecesLie front start (whole t end ∷ ps) = Follows front start t × (t.start + width t ≡ end) × IsLongest front t
    × PiecesLie front end ps

no_line_end : (c : ℕ) → is_comment_byte c ≡ false → is_whitespace c ≡ true
no_line_end c h = grind (arith, common_steps, h)

-- the byte after the longest comment ends its line
line_ends : (bs : List ℕ) → EndsLine true (drop (prefix_len is_comment_byte bs) bs)
line_ends [] = refl
line_ends (b ∷ bs) =
    elim (is_comment_byte b) as
    (λ v. is_comment_byte b ≡ v → EndsLine true (drop (cond v (1 + prefix_len is_comment_byte bs) 0) (b ∷ bs))) [
      | true ↦ λ is. rw one-add (line_ends bs)
      | false ↦ λ is. is
    ] refl

-- and it stands before the next token
line_ends_before : (m first : ℕ) (rest more : List ℕ) → EndsLine true rest → drop m rest ≡ first ∷ more
    → is_whitespace first ≡ false → EndsLine false (take m rest)
line_ends_before zero first [] more ends here fresh = cc
line_ends_before (suc m) first [] more ends here fresh = cc
line_ends_before zero first (c ∷ cs) more ends here fresh =
    let both : c ≡ first = cc in
    let clash : true ≡ false = sym (no_line_end c ends) ∙ ap is_whitespace both ∙ fresh in
    absurd (cc clash)
line_ends_before (suc m) first (c ∷ cs) more ends here fresh = ends

drop_more : (n place b : ℕ) (front bs : List ℕ) → drop place front ≡ b ∷ bs → drop ((place + 1) + n) front ≡ drop n bs
drop_more n place b front bs here =
    sym (drop-drop n (place + 1) front) ∙ ap (drop n) (sym (drop-drop 1 place front) ∙ ap (drop 1) here)

-- one piece of a gap more before the end
widen_end : (place more b : ℕ) (front bs : List ℕ) → drop place front ≡ b ∷ bs → IsGapPiece b bs more
    → IsGap true (drop ((place + 1) + more) front) → IsGap true (drop place front)
widen_end place more b front bs here (inl is) g =
    let rest : drop ((place + 1) + more) front ≡ bs = drop_more more place b front bs here ∙ ap (λ n. drop n bs) is.1 in
    subst (IsGap true) (sym here) (space b bs is.0 (subst (IsGap true) rest g))
widen_end place more b front bs here (inr is) g =
    let n = prefix_len is_comment_byte bs in
    let rest : drop ((place + 1) + more) front ≡ drop n bs =
    drop_more more place b front bs here ∙ ap (λ k. drop k bs) is.1 in
    let whole_gap : IsGap true (35 ∷ (take n bs ++ drop n bs)) =
    comment (take n bs) (drop n bs) (passes is_comment_byte bs) (line_ends bs) (subst (IsGap true) rest g) in
    let there : 35 ∷ (take n bs ++ drop n bs) ≡ drop place front =
    (λ i. sym is.0 i ∷ take-append-drop n bs i) ∙ sym here in
    subst (IsGap true) there whole_gap

-- and one before a token
widen_gap : (place more b end first : ℕ) (front bs after : List ℕ) → drop place front ≡ b ∷ bs → IsGapPiece b bs more
    → (place + 1) + more ≤ end → drop end front ≡ first ∷ after → is_whitespace first ≡ false
    → IsGap false (bytes_between front ((place + 1) + more) end) → IsGap false (bytes_between front place end)
widen_gap place more b end first front bs after here (inl is) within next fresh g =
    let m = end - ((place + 1) + more) in
    let size : end - place ≡ suc m = omega (arith, is.1) in
    let rest : drop ((place + 1) + more) front ≡ bs = drop_more more place b front bs here ∙ ap (λ n. drop n bs) is.1 in
    let there : bytes_between front place end ≡ b ∷ take m bs = λ i. take (size i) (here i) in
    subst (IsGap false) (sym there) (space b (take m bs) is.0 (subst (λ (l : List ℕ). IsGap false (take m l)) rest g))
widen_gap place more b end first front bs after here (inr is) within next fresh g =
    let n = prefix_len is_comment_byte bs in
    let m = end - ((place + 1) + more) in
    let size : end - place ≡ suc (n + m) = omega (arith, is.1) in
    let rest : drop ((place + 1) + more) front ≡ drop n bs =
    drop_more more place b front bs here ∙ ap (λ k. drop k bs) is.1 in
    let sum : ((place + 1) + more) + m ≡ end = omega arith in
    let then_token : drop m (drop n bs) ≡ first ∷ after =
    ap (drop m) (sym rest) ∙ drop-drop m ((place + 1) + more) front ∙ ap (λ k. drop k front) sum ∙ next in
    let ends : EndsLine false (take m (drop n bs)) =
    line_ends_before m first (drop n bs) after (line_ends bs) then_token fresh in
    let whole_gap : IsGap false (35 ∷ (take n bs ++ take m (drop n bs))) =
    comment (take n bs) (take m (drop n bs)) (passes is_comment_byte bs) ends
    (subst (λ (l : List ℕ). IsGap false (take m l)) rest g) in
    let there : bytes_between front place end ≡ b ∷ (take n bs ++ take m (drop n bs)) =
    (λ i. take (size i) (here i)) ∙ ap (λ (l : List ℕ). b ∷ l) (take-add n m bs) in
    subst (IsGap false) (sym there)
    (subst (λ (c : ℕ). IsGap false (c ∷ (take n bs ++ take m (drop n bs)))) (sym is.0) whole_gap)

widen : (front : List ℕ) (place more b : ℕ) (bs : List ℕ) (ps : List Piece) → drop place front ≡ b ∷ bs
    → IsGapPiece b bs more → PiecesLie front ((place + 1) + more) ps → PiecesLie front place ps
widen front place more b bs [] here piece lie = widen_end place more b front bs here piece lie
widen front place more b bs (faulty fault ∷ ps) here piece lie = tt
widen front place more b bs (whole t end ∷ ps) here piece lie =
    let f = lie.0 in (
      record {
        before = omega (arith, f.before);
        gap = widen_gap place more b t.start f.first front bs f.rest here piece f.before f.here f.fresh f.gap;
        first = f.first;
        rest = f.rest;
        here = f.here;
        fresh = f.fresh;
      },
      lie.1,
      lie.2,
      lie.3,
    )

no_bytes : (k : ℕ) (bs : List ℕ) → bs ≡ [] → drop k bs ≡ []
no_bytes zero bs is = is
no_bytes (suc k) bs is = ap (drop (suc k)) is

end-lies : (front : List ℕ) (start : ℕ) (end : Option ℕ) → drop start front ≡ []
    → PiecesLie front start (end_pieces end)
end-lies front start None here = subst (IsGap true) (sym here) nothing
end-lies front start (Some bad) here = tt

empty_gap : (front : List ℕ) (at_end : Bool) (start end : ℕ) → end ≤ start
    → IsGap at_end (bytes_between front start end)
empty_gap front at_end start end before =
    let none : end - start ≡ 0 = omega arith in
    subst (λ n. IsGap at_end (take n (drop start front))) (sym none) nothing

pieces-with-lie : (front : List ℕ) (end : Option ℕ) (place line b : ℕ) (bs : List ℕ) (rest : ℕ → List Piece) (cut : Cut)
    → drop place front ≡ b ∷ bs → CutLies b bs cut
    → ((k : ℕ) → PiecesLie front ((place + 1) + k) (rest k))
    → PiecesLie front place (pieces_with end cut place line rest)
pieces-with-lie front end place line b bs rest (gap more) here lies next =
    widen front place more b bs (rest more) here lies (next more)
pieces-with-lie front end place line b bs rest wrong here lies next = tt
pieces-with-lie front end place line b bs rest unended here lies next = tt
pieces-with-lie front end place line b bs rest (token x) here lies next =
    let there : (place + 1) + x.more ≡ place + (x.more + 1) = omega arith in (
      record {
        before = omega arith;
        gap = empty_gap front false place place (omega arith);
        first = b;
        rest = bs;
        here = here;
        fresh = lies.fresh;
      },
      ap (λ n. place + n) lies.size,
      record {
        stands = subst (λ (l : List ℕ). BeginsWith l x.kind x.text) (sym here) lies.stands;
        longest = λ other w. lies.longest other (subst (λ (l : List ℕ). BeginsWith l x.kind other) here w);
      },
      subst (λ n. PiecesLie front n (rest x.more)) there (next x.more),
    )

pieces-lie : (front : List ℕ) (end : Option ℕ) (k place line : ℕ) (bs : List ℕ) → drop place front ≡ bs
    → PiecesLie front (place + k) (pieces_from end k place line bs)
pieces-lie front end k place line [] here =
    end-lies front (place + k) end (sym (drop-drop k place front) ∙ no_bytes k (drop place front) here)
pieces-lie front end (suc k) place line (b ∷ bs) here =
    let sum : (place + 1) + k ≡ place + suc k = omega arith in
    subst (λ n. PiecesLie front n (pieces_from end k (place + 1) (line_behind b line) bs)) sum
    (pieces-lie front end k (place + 1) (line_behind b line) bs (sym (drop-drop 1 place front) ∙ ap (drop 1) here))
pieces-lie front end zero place line (b ∷ bs) here =
    let sum : place ≡ place + 0 = omega arith in
    subst (λ n. PiecesLie front n (pieces_from end zero place line (b ∷ bs))) sum
    (pieces-with-lie front end place line b bs (λ n. pieces_from end n (place + 1) (line_behind b line) bs)
    (cut_at b bs) here (cut-lies b bs)
    (λ k. pieces-lie front end k (place + 1) (line_behind b line) bs
    (sym (drop-drop 1 place front) ∙ ap (drop 1) here)))

-- ---- readings

abbrev FrontLies : List ℕ → ℕ → Result DocumentTokens TextFault → Type 0
FrontLies front start (Err fault) = Unit {0}
FrontLies front start (Ok r) = HaveGaps front start r.tokens r.place_behind × AreLongest front r.tokens

with_token-lies : (front : List ℕ) (start end : ℕ) (t : PlainToken) (o : Result DocumentTokens TextFault)
    → IsGap false (bytes_between front start t.start) → t.start + width t ≡ end → IsLongest front t
    → FrontLies front end o → FrontLies front start (with_token t o)
with_token-lies front start end t (Err fault) g size long f = tt
with_token-lies front start end t (Ok r) g size long f =
    ((g, subst (λ n. HaveGaps front n r.tokens r.place_behind) (sym size) f.0), (long, f.1))

front-lies : (front : List ℕ) (start end : ℕ) (m : Met) (ps : List Piece) → length front ≤ end
    → PiecesLie front start ps → FrontLies front start (document_front end m ps)
front-lies front start end m [] within lie = (
  subst (IsGap true) (sym (take_all (end - start) (drop start front) (omega (arith, length-drop start front)))) lie,
  tt,
)
front-lies front start end m (faulty fault ∷ ps) within lie = tt
front-lies front start end m (whole t stop ∷ ps) within lie =
    elim (is_last m t) as
    (λ v. FrontLies front start
    (cond v (Ok (record { tokens = t ∷ []; place_behind = stop }))
    (with_token t (document_front end (met_after t.kind t.text m) ps)))) [
      | true ↦ ((lie.0.gap, empty_gap front true (t.start + width t) stop (omega (arith, lie.1))), (lie.2, tt))
      | false ↦
          with_token-lies front start stop t (document_front end (met_after t.kind t.text m) ps) lie.0.gap lie.1 lie.2
          (front-lies front stop end (met_after t.kind t.text m) ps within lie.3)
    ]

told : (input : List ℕ) (r : DocumentTokens) → reading input ≡ Some r
    → FrontLies (utf8_front input) (mark_len (utf8_front input)) (Ok r)
told input r is =
    let front = utf8_front input in
    let within : length front ≤ length input =
    omega (arith, length-take-le (utf8_valid_len input) input (utf8_valid_len_le input), utf8_valid_len_le input) in
    let start : 0 + mark_len front ≡ mark_len front = omega arith in
    let lies : FrontLies front (mark_len front) (document input) =
    front-lies front (mark_len front) (length input) nothing_met (front_pieces (bad_byte_line input) front) within
    (subst (λ n. PiecesLie front n (front_pieces (bad_byte_line input) front)) start
    (pieces-lie front (bad_byte_line input) (mark_len front) 0 1 front refl)) in
    subst (FrontLies front (mark_len front)) (read_ok (document input) r is) lies

pub gaps : (input : List ℕ) (r : DocumentTokens) → reading input ≡ Some r → HaveOnlyGaps input r
gaps input r is = (told input r is).0

pub longest : (input : List ℕ) (r : DocumentTokens) → reading input ≡ Some r → AreLongest (utf8_front input) r.tokens
longest input r is = (told input r is).1
