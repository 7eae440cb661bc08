-- The tokens of a reading have the lines of their first bytes.
use Rattle.std.proofs.Common.{◌≡◌, ℕ, zero, suc, ◌+◌, ◌<◌, ◌≤◌, Bool, true, false, cond, List, [], ◌∷◌, length, get_or}
use Rattle.std.proofs.Common.{take, drop, Option, Some, None, Result, Ok, Err, refl, ap, sym, ◌∙◌, subst, arith}
use Rattle.std.proofs.Common.{length-drop}
use Rattle.std.proofs.lemmas.List.{drop-drop, length-take-le, get_or-drop}
use Rattle.std.proofs.lemmas.List.Sums.{count_by_more_yes, count_by_more_no}
use Rattle.std.proofs.lemmas.Str.{utf8_valid_len_le}
use Rattle.std.specs.Str.Lossy.{utf8_valid_len}
use Rattle.ofn_tree.specs.declared.fault.TextFault.{TextFault}
use Rattle.ofn_tree.specs.Token.{PlainToken}
use Rattle.ofn_tree.specs.Lexemes.{Cut, gap, token, wrong, unended, cut_at, is_line_feed, end_line, line_behind, Piece}
use Rattle.ofn_tree.specs.Lexemes.{whole, faulty, end_pieces, pieces_with, pieces_from, mark_len, utf8_front}
use Rattle.ofn_tree.specs.Lexemes.{bad_byte_line, front_pieces}
use Rattle.ofn_tree.specs.Document.{Met, DocumentTokens, nothing_met, is_last, met_after, document_front, with_token}
use Rattle.ofn_tree.specs.Document.{document, reading}
use Rattle.ofn_tree.specs.Spans.{HaveLines}
use Rattle.ofn_tree.proofs.Slices.{read_ok, take_of_take}

-- each token of the pieces has the line of its first byte, which is a byte of the text's front that is UTF-8
abbrev PieceLines : List ℕ → List Piece → Type 0
PieceLines front [] = Unit {0}
PieceLines front (faulty fault ∷ ps) = Unit {0}
PieceLines front (whole t behind ∷ ps) = (t.start < length front) × (t.line ≡ end_line (take t.start front))
    × PieceLines front ps

end-lines : (front : List ℕ) (end : Option ℕ) → PieceLines front (end_pieces end)
end-lines front None = tt
end-lines front (Some bad) = tt

inside : (front : List ℕ) (place b : ℕ) (bs : List ℕ) → drop place front ≡ b ∷ bs → place < length front
inside front place b bs here = omega (arith, length-drop place front, ap length here)

byte-at : (front : List ℕ) (place b : ℕ) (bs : List ℕ) → drop place front ≡ b ∷ bs → get_or front place 0 ≡ b
byte-at front place b bs here =
    let there : get_or (drop place front) 0 0 ≡ get_or front place 0 =
    let sum : place + 0 ≡ place = omega arith in get_or-drop place front 0 0 ∙ ap (λ n. get_or front n 0) sum in
    sym there ∙ ap (λ l. get_or l 0 0) here

-- one byte more
line-next : (front : List ℕ) (place line b : ℕ) (v : Bool) → place < length front → get_or front place 0 ≡ b
    → is_line_feed b ≡ v → line ≡ end_line (take place front)
    → cond v (line + 1) line ≡ end_line (take (place + 1) front)
line-next front place line b true within byte is same =
    omega (arith, same, count_by_more_yes is_line_feed front place 0 within (ap is_line_feed byte ∙ is))
line-next front place line b false within byte is same =
    omega (arith, same, count_by_more_no is_line_feed front place 0 within (ap is_line_feed byte ∙ is))

with-lines : (front : List ℕ) (end : Option ℕ) (place line : ℕ) (rest : ℕ → List Piece) (cut : Cut)
    → place < length front → line ≡ end_line (take place front)
    → ((k : ℕ) → PieceLines front (rest k)) → PieceLines front (pieces_with end cut place line rest)
with-lines front end place line rest (gap n) within same more = more n
with-lines front end place line rest (token x) within same more = (within, same, more x.more)
with-lines front end place line rest wrong within same more = tt
with-lines front end place line rest unended within same more = tt

pieces-lines : (front : List ℕ) (end : Option ℕ) (k place line : ℕ) (bs : List ℕ) → drop place front ≡ bs
    → line ≡ end_line (take place front) → PieceLines front (pieces_from end k place line bs)
pieces-lines front end k place line [] here same = end-lines front end
pieces-lines front end (suc k) place line (b ∷ bs) here same =
    pieces-lines front end k (place + 1) (line_behind b line) bs (sym (drop-drop 1 place front) ∙ ap (drop 1) here)
    (line-next front place line b (is_line_feed b) (inside front place b bs here) (byte-at front place b bs here) refl
    same)
pieces-lines front end zero place line (b ∷ bs) here same =
    with-lines front end place line (λ n. pieces_from end n (place + 1) (line_behind b line) bs) (cut_at b bs)
    (inside front place b bs here) same
    (λ k. pieces-lines front end k (place + 1) (line_behind b line) bs
    (sym (drop-drop 1 place front) ∙ ap (drop 1) here)
    (line-next front place line b (is_line_feed b) (inside front place b bs here) (byte-at front place b bs here) refl
    same))

-- ---- readings

-- so many bytes of the input are its front
abbrev FrontLines : List ℕ → Result DocumentTokens TextFault → Type 0
FrontLines input (Err fault) = Unit {0}
FrontLines input (Ok r) = HaveLines input r.tokens

with_token-lines : (input : List ℕ) (t : PlainToken) (o : Result DocumentTokens TextFault)
    → t.line ≡ end_line (take t.start input) → FrontLines input o → FrontLines input (with_token t o)
with_token-lines input t (Err fault) line f = tt
with_token-lines input t (Ok r) line f = (line, f)

front-line : (n : ℕ) (input : List ℕ) (t : PlainToken) → n ≤ length input → t.start < length (take n input)
    → t.line ≡ end_line (take t.start (take n input)) → t.line ≡ end_line (take t.start input)
front-line n input t fits within line =
    let before : t.start ≤ n = omega (arith, length-take-le n input fits) in
    line ∙ ap end_line (take_of_take t.start n input before)

front-lines : (n : ℕ) (input : List ℕ) (end : ℕ) (m : Met) (ps : List Piece) → n ≤ length input
    → PieceLines (take n input) ps → FrontLines input (document_front end m ps)
front-lines n input end m [] fits p = tt
front-lines n input end m (faulty fault ∷ ps) fits p = tt
front-lines n input end m (whole t behind ∷ ps) fits p =
    elim (is_last m t) as
    (λ v. FrontLines input
    (cond v (Ok (record { tokens = t ∷ []; place_behind = behind }))
    (with_token t (document_front end (met_after t.kind t.text m) ps)))) [
      | true ↦ (front-line n input t fits p.0 p.1, tt)
      | false ↦
          with_token-lines input t (document_front end (met_after t.kind t.text m) ps)
          (front-line n input t fits p.0 p.1) (front-lines n input end (met_after t.kind t.text m) ps fits p.2)
    ]

pub lines : (input : List ℕ) (r : DocumentTokens) → reading input ≡ Some r → HaveLines input r.tokens
lines input r is =
    let front = utf8_front input in
    let told : FrontLines input (document input) =
    front-lines (utf8_valid_len input) input (length input) nothing_met (front_pieces (bad_byte_line input) front)
    (utf8_valid_len_le input)
    (pieces-lines front (bad_byte_line input) (mark_len front) 0 1 front refl refl) in
    subst (FrontLines input) (read_ok (document input) r is) told
