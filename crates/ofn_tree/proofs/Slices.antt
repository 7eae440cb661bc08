-- The tokens of a reading are slices of the input, in order and apart.
use Rattle.std.proofs.Common.{◌≡◌, ℕ, zero, suc, ◌+◌, ◌<◌, ◌≤◌, Bool, true, false, cond, ◌||◌, List, [], ◌∷◌, length}
use Rattle.std.proofs.Common.{get_or, take, drop, Option, Some, None, Result, Ok, Err, refl, ap, sym, ◌∙◌, subst, arith}
use Rattle.std.proofs.Common.{length-drop, nat_eq}
use Rattle.std.proofs.lemmas.List.Sums.{prefix_len-le-length}
use Rattle.std.proofs.lemmas.List.Folds.{length-prefix_len}
use Rattle.std.proofs.lemmas.List.{drop-drop, length-take-le}
use Rattle.std.proofs.lemmas.Str.{utf8_valid_len_le}
use Rattle.std.specs.List.{prefix_len}
use Rattle.std.specs.Result.{result_ok}
use Rattle.std.specs.Str.Lossy.{utf8_valid_len}
use Rattle.ofn_tree.specs.declared.token.Kind.TheVariants.{OpenBracket, CloseBracket, Equals, Iri, Tag, Carets}
use Rattle.ofn_tree.specs.declared.fault.TextFault.{TextFault}
use Rattle.ofn_tree.specs.Token.{PlainToken}
use Rattle.ofn_tree.specs.Lexemes.{Lexeme, Cut, gap, token, wrong, unended, cut_short, iri_at, Quoted, closes, breaks}
use Rattle.ofn_tree.specs.Lexemes.{runs_on, longer, quoted, string_at, tag_at, carets_at, name_at, sign_at, cut_at}
use Rattle.ofn_tree.specs.Lexemes.{is_whitespace, is_comment_byte, is_iri_byte, is_tag_byte, is_name_byte, line_behind}
use Rattle.ofn_tree.specs.Lexemes.{Piece, whole, faulty, token_of, end_pieces, pieces_with, pieces_from, mark_len}
use Rattle.ofn_tree.specs.Lexemes.{utf8_front, bad_byte_line, front_pieces}
use Rattle.ofn_tree.specs.Document.{Met, DocumentTokens, nothing_met, is_last, met_after, document_front, with_token}
use Rattle.ofn_tree.specs.Document.{document, reading}
use Rattle.ofn_tree.specs.Spans.{around, width, IsSlice, AreSpans, AreSlices}

-- ---- what stands at the front of some bytes

-- a lexeme is a slice of the bytes that it stands at the front of
record Fits (b : ℕ) (bs : List ℕ) (x : Lexeme) : Type 0 where
  slice : x.text ≡ take (length x.text) (drop (around x.kind) (b ∷ bs))
  size : around x.kind + (length x.text + around x.kind) ≡ x.more + 1
  within : x.more ≤ length bs

abbrev CutFits : ℕ → List ℕ → Cut → Type 0
CutFits b bs (gap more) = Unit {0}
CutFits b bs (token x) = Fits b bs x
CutFits b bs wrong = Unit {0}
CutFits b bs unended = Unit {0}

short-fits : (b : ℕ) (bs rest : List ℕ) → CutFits b bs (cut_short rest)
short-fits b bs [] = tt
short-fits b bs (x ∷ rest) = tt

index_inside : (bs : List ℕ) (n : ℕ) → nat_eq (get_or bs n 0) 62 ≡ true → n < length bs
index_inside [] n h = cc
index_inside (b ∷ bs) zero h = omega arith
index_inside (b ∷ bs) (suc n) h = omega (arith, index_inside bs n h)

some_caret : (bs : List ℕ) → nat_eq (get_or bs 0 0) 94 ≡ true → 1 ≤ length bs
some_caret [] h = cc
some_caret (b ∷ bs) h = omega arith

iri-fits : (b n : ℕ) (bs : List ℕ) (v : Bool) → nat_eq (get_or bs n 0) 62 ≡ v → length (take n bs) ≡ n
    → CutFits b bs (cond v (token (record { kind = Iri; text = take n bs; more = n + 1 })) (cut_short (drop n bs)))
iri-fits b n bs true closed len =
    let inside : n < length bs = index_inside bs n closed in
    record { slice = ap (λ m. take m bs) (sym len); size = omega (arith, len); within = omega (arith, inside) }
iri-fits b n bs false closed len = short-fits b bs (drop n bs)

-- the quotation mark that closes a string is one of the bytes
abbrev QuotedFits : List ℕ → Quoted → Type 0
QuotedFits bs (closes n) = n < length bs
QuotedFits bs breaks = Unit {0}
QuotedFits bs runs_on = Unit {0}

longer-fits : (b : ℕ) (bs : List ℕ) (q : Quoted) → QuotedFits bs q → QuotedFits (b ∷ bs) (longer q)
longer-fits b bs (closes n) inside = omega (arith, inside)
longer-fits b bs breaks inside = tt
longer-fits b bs runs_on inside = tt

quoted-fits : (escaped : Bool) (bs : List ℕ) → QuotedFits bs (quoted escaped bs)
quoted-fits true [] = tt
quoted-fits false [] = tt
quoted-fits true (b ∷ bs) =
    elim (nat_eq b 34 || nat_eq b 92) as (λ v. QuotedFits (b ∷ bs) (cond v (longer (quoted false bs)) breaks)) [
      | true ↦ longer-fits b bs (quoted false bs) (quoted-fits false bs)
      | false ↦ tt
    ]
quoted-fits false (b ∷ bs) =
    elim (nat_eq b 34) as (λ v. QuotedFits (b ∷ bs) (cond v (closes 0) (longer (quoted (nat_eq b 92) bs)))) [
      | true ↦ omega arith
      | false ↦ longer-fits b bs (quoted (nat_eq b 92) bs) (quoted-fits (nat_eq b 92) bs)
    ]

string-fits : (b : ℕ) (bs : List ℕ) (q : Quoted) → QuotedFits bs q → CutFits b bs (string_at q bs)
string-fits b bs (closes n) inside =
    let len : length (take n bs) ≡ n = length-take-le n bs (omega (arith, inside)) in
    record { slice = ap (λ m. take m bs) (sym len); size = omega (arith, len); within = omega (arith, inside) }
string-fits b bs breaks inside = tt
string-fits b bs runs_on inside = tt

tag-fits : (b n : ℕ) (bs : List ℕ) (v : Bool) → length (take n bs) ≡ n → n ≤ length bs
    → CutFits b bs (cond v (cut_short bs) (token (record { kind = Tag; text = b ∷ take n bs; more = n })))
tag-fits b n bs true len inside = short-fits b bs bs
tag-fits b n bs false len inside =
    record { slice = ap (λ m. b ∷ take m bs) (sym len); size = omega (arith, len); within = inside }

carets-fits : (b : ℕ) (bs : List ℕ) (v : Bool) → nat_eq (get_or bs 0 0) 94 ≡ v
    → CutFits b bs (cond v (token (record { kind = Carets; text = b ∷ take 1 bs; more = 1 })) (cut_short bs))
carets-fits b bs true is =
    let len : length (take 1 bs) ≡ 1 = length-take-le 1 bs (some_caret bs is) in
    record { slice = ap (λ m. b ∷ take m bs) (sym len); size = omega (arith, len); within = some_caret bs is }
carets-fits b bs false is = short-fits b bs bs

name-fits : (b n : ℕ) (bs : List ℕ) → length (take n bs) ≡ n → n ≤ length bs → CutFits b bs (name_at n b bs)
name-fits b n bs len inside =
    record { slice = ap (λ m. b ∷ take m bs) (sym len); size = omega (arith, len); within = inside }

either : (b : ℕ) (bs : List ℕ) (v : Bool) (x y : Cut) → CutFits b bs x → CutFits b bs y → CutFits b bs (cond v x y)
either b bs true x y first rest = first
either b bs false x y first rest = rest

cut-fits : (b : ℕ) (bs : List ℕ) → CutFits b bs (cut_at b bs)
cut-fits b bs =
    either b bs (is_whitespace b) (gap 0) _ tt
    (either b bs (nat_eq b 35) (gap (prefix_len is_comment_byte bs)) _ tt
    (either b bs (nat_eq b 40) (sign_at OpenBracket b) _ (record { slice = refl; size = refl; within = omega arith })
    (either b bs (nat_eq b 41) (sign_at CloseBracket b) _ (record { slice = refl; size = refl; within = omega arith })
    (either b bs (nat_eq b 61) (sign_at Equals b) _ (record { slice = refl; size = refl; within = omega arith })
    (either b bs (nat_eq b 60) (iri_at (prefix_len is_iri_byte bs) bs) _
    (iri-fits b (prefix_len is_iri_byte bs) bs (nat_eq (get_or bs (prefix_len is_iri_byte bs) 0) 62) refl
    (length-prefix_len is_iri_byte bs))
    (either b bs (nat_eq b 34) (string_at (quoted false bs) bs) _
    (string-fits b bs (quoted false bs) (quoted-fits false bs))
    (either b bs (nat_eq b 64) (tag_at (prefix_len is_tag_byte bs) b bs) _
    (tag-fits b (prefix_len is_tag_byte bs) bs (nat_eq (prefix_len is_tag_byte bs) 0) (length-prefix_len is_tag_byte bs)
    (prefix_len-le-length is_tag_byte bs))
    (either b bs (nat_eq b 94) (carets_at b bs) _ (carets-fits b bs (nat_eq (get_or bs 0 0) 94) refl)
    (either b bs (is_name_byte b) (name_at (prefix_len is_name_byte bs) b bs) wrong
    (name-fits b (prefix_len is_name_byte bs) bs (length-prefix_len is_name_byte bs)
    (prefix_len-le-length is_name_byte bs))
    tt)))))))))

-- ---- pieces

-- slices of the one are slices of the other
record IsFrontOf (front input : List ℕ) : Type 0 where
  within : length front ≤ length input
  same : (start len : ℕ) → start + len ≤ length front → take len (drop start front) ≡ take len (drop start input)

pub take_of_take : (len n : ℕ) (input : List ℕ) → len ≤ n → take len (take n input) ≡ take len input
take_of_take zero n input inside = refl
take_of_take (suc len) zero input inside = absurd (omega (arith, inside))
take_of_take (suc len) (suc n) [] inside = refl
take_of_take (suc len) (suc n) (x ∷ input) inside =
    ap (λ (l : List ℕ). x ∷ l) (take_of_take len n input (omega (arith, inside)))

slice_of_take : (start len n : ℕ) (input : List ℕ) → start + len ≤ n
    → take len (drop start (take n input)) ≡ take len (drop start input)
slice_of_take zero len n input inside = take_of_take len n input (omega (arith, inside))
slice_of_take (suc start) len zero input inside = absurd (omega (arith, inside))
slice_of_take (suc start) len (suc n) [] inside = refl
slice_of_take (suc start) len (suc n) (x ∷ input) inside = slice_of_take start len n input (omega (arith, inside))

IsFrontOf-take : (n : ℕ) (input : List ℕ) → n ≤ length input → IsFrontOf (take n input) input
IsFrontOf-take n input inside =
    let len : length (take n input) ≡ n = length-take-le n input inside in
    record {
      within = omega (arith, len);
      same = λ start size fits. slice_of_take start size n input (omega (arith, fits, len));
    }

-- the pieces are slices of the input from a place on
abbrev PiecesFit : List ℕ → ℕ → List Piece → Type 0
PiecesFit input from [] = Unit {0}
PiecesFit input from (faulty fault ∷ ps) = Unit {0}
PiecesFit input from (whole t behind ∷ ps) = (from ≤ t.start) × IsSlice input t × (t.start + width t ≡ behind)
    × (behind ≤ length input) × PiecesFit input behind ps

rest_length : (front : List ℕ) (place b : ℕ) (bs : List ℕ) → drop place front ≡ b ∷ bs
    → place + suc (length bs) ≡ length front
rest_length front place b bs here = grind (arith, length-drop place front, ap length here)

piece-slice : (front input : List ℕ) (place line b : ℕ) (bs : List ℕ) (x : Lexeme) → IsFrontOf front input
    → drop place front ≡ b ∷ bs → Fits b bs x → IsSlice input (token_of place line x)
piece-slice front input place line b bs x is here f =
    let there : drop (around x.kind) (b ∷ bs) ≡ drop (place + around x.kind) front =
    ap (drop (around x.kind)) (sym here) ∙ drop-drop (around x.kind) place front in
    let inside : (place + around x.kind) + length x.text ≤ length front =
    omega (arith, rest_length front place b bs here, f.size, f.within) in
    f.slice ∙ ap (take (length x.text)) there ∙ is.same (place + around x.kind) (length x.text) inside

end-fits : (input : List ℕ) (from : ℕ) (end : Option ℕ) → PiecesFit input from (end_pieces end)
end-fits input from None = tt
end-fits input from (Some bad) = tt

pieces-with-fit : (front input : List ℕ) (end : Option ℕ) (from place line b : ℕ) (bs : List ℕ) (rest : ℕ → List Piece)
    (cut : Cut)
    → IsFrontOf front input → drop place front ≡ b ∷ bs → from ≤ place → CutFits b bs cut
    → ((from k : ℕ) → from ≤ place + 1 + k → PiecesFit input from (rest k))
    → PiecesFit input from (pieces_with end cut place line rest)
pieces-with-fit front input end from place line b bs rest (gap n) is here before f more = more from n (omega arith)
pieces-with-fit front input end from place line b bs rest wrong is here before f more = tt
pieces-with-fit front input end from place line b bs rest unended is here before f more = tt
pieces-with-fit front input end from place line b bs rest (token x) is here before f more = (
  before,
  piece-slice front input place line b bs x is here f,
  ap (λ n. place + n) f.size,
  omega (arith, rest_length front place b bs here, f.within, is.within),
  more (place + (x.more + 1)) x.more (omega arith),
)

pieces-fit : (front input : List ℕ) (end : Option ℕ) (from k place line : ℕ) (bs : List ℕ) → IsFrontOf front input
    → drop place front ≡ bs → from ≤ place + k → PiecesFit input from (pieces_from end k place line bs)
pieces-fit front input end from k place line [] is here before = end-fits input from end
pieces-fit front input end from (suc k) place line (b ∷ bs) is here before =
    pieces-fit front input end from k (place + 1) (line_behind b line) bs is
    (sym (drop-drop 1 place front) ∙ ap (drop 1) here) (omega (arith, before))
pieces-fit front input end from zero place line (b ∷ bs) is here before =
    pieces-with-fit front input end from place line b bs (λ n. pieces_from end n (place + 1) (line_behind b line) bs)
    (cut_at b bs) is here (omega (arith, before)) (cut-fits b bs)
    (λ start k within. pieces-fit front input end start k (place + 1) (line_behind b line) bs is
    (sym (drop-drop 1 place front) ∙ ap (drop 1) here) within)

-- ---- readings

abbrev FrontFits : List ℕ → ℕ → Result DocumentTokens TextFault → Type 0
FrontFits input from (Err fault) = Unit {0}
FrontFits input from (Ok r) = AreSpans input from r.tokens r.place_behind × (r.place_behind ≤ length input)

with_token-fits : (input : List ℕ) (from behind : ℕ) (t : PlainToken) (o : Result DocumentTokens TextFault)
    → from ≤ t.start → IsSlice input t → t.start + width t ≡ behind → FrontFits input behind o
    → FrontFits input from (with_token t o)
with_token-fits input from behind t (Err fault) before slice end f = tt
with_token-fits input from behind t (Ok r) before slice end f =
    ((before, slice, subst (λ n. AreSpans input n r.tokens r.place_behind) (sym end) f.0), f.1)

front-fits : (input : List ℕ) (from : ℕ) (m : Met) (ps : List Piece) → from ≤ length input → PiecesFit input from ps
    → FrontFits input from (document_front (length input) m ps)
front-fits input from m [] before fit = (before, omega arith)
front-fits input from m (faulty fault ∷ ps) before fit = tt
front-fits input from m (whole t behind ∷ ps) before fit =
    elim (is_last m t) as
    (λ v. FrontFits input from
    (cond v (Ok (record { tokens = t ∷ []; place_behind = behind }))
    (with_token t (document_front (length input) (met_after t.kind t.text m) ps)))) [
      | true ↦ ((fit.0, fit.1, omega (arith, fit.2)), fit.3)
      | false ↦
          with_token-fits input from behind t (document_front (length input) (met_after t.kind t.text m) ps) fit.0 fit.1
          fit.2 (front-fits input behind (met_after t.kind t.text m) ps fit.3 fit.4)
    ]

pub read_ok : (d : Result DocumentTokens TextFault) (r : DocumentTokens) → result_ok d ≡ Some r → d ≡ Ok r
read_ok (Ok x) r is = cc
read_ok (Err fault) r is = cc

pub slices : (input : List ℕ) (r : DocumentTokens) → reading input ≡ Some r → AreSlices input r
slices input r is =
    let front = utf8_front input in
    let fits : FrontFits input 0 (document input) =
    front-fits input 0 nothing_met (front_pieces (bad_byte_line input) front) (omega arith)
    (pieces-fit front input (bad_byte_line input) 0 (mark_len front) 0 1 front
    (IsFrontOf-take (utf8_valid_len input) input (utf8_valid_len_le input)) refl (omega arith)) in
    subst (FrontFits input 0) (read_ok (document input) r is) fits
