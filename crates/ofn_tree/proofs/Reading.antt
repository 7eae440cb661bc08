-- The pieces from a place on, and what is read so far.
use Rattle.std.proofs.Common.{◌≡◌, ℕ, zero, suc, ◌+◌, ◌-◌, ◌<◌, ◌≤◌, Bool, true, false, cond, List, [], ◌∷◌, ◌++◌}
use Rattle.std.proofs.Common.{length, get_or, take, drop, Option, Result, Ok, Err, refl, ap, sym, ◌∙◌, append_assoc}
use Rattle.std.proofs.Common.{arith, length-drop, drop-cons, add-one, nat_eq, not, is_some}
use Rattle.std.specs.Result.{result_ok, result_err}
use Rattle.std.specs.List.{starts_with}
use Rattle.std.proofs.lemmas.List.{take_all, drop-drop}
use Rattle.std.proofs.lemmas.List.Sums.{sum_by-cons}
use Rattle.std.proofs.Math.ListN.{drop_of_length-le}
use Rattle.ofn_tree.specs.Token.{PlainToken}
use Rattle.ofn_tree.specs.declared.fault.TextFault.{TextFault}
use Rattle.ofn_tree.specs.Lexemes.{Lexeme, Cut, gap, token, cut_at, is_line_feed, line_feeds, line_behind, Piece, whole}
use Rattle.ofn_tree.specs.Lexemes.{token_of, end_pieces, pieces_with, pieces_from, byte_order_mark, mark_len}
use Rattle.ofn_tree.specs.Lexemes.{front_pieces}
use Rattle.ofn_tree.proofs.Boundaries.{begins-with_mark}
use Rattle.ofn_tree.specs.Document.{Met, DocumentTokens, is_last, met_after, document_front, with_token}

feeds-more : (line more : ℕ) (v : Bool) → cond v (line + 1) line + more ≡ line + (cond v 1 0 + more)
feeds-more line more true = omega arith
feeds-more line more false = omega arith

line-more : (b line : ℕ) (bs : List ℕ) → line_behind b line + line_feeds bs ≡ line + line_feeds (b ∷ bs)
line-more b line bs =
    feeds-more line (line_feeds bs) (is_line_feed b)
    ∙ ap (λ n. line + n) (sym (sum_by-cons (λ x. cond (is_line_feed x) 1 0) b bs))

pub pieces_from-skip : (end : Option ℕ) (k place line : ℕ) (bs : List ℕ)
    → pieces_from end k place line bs ≡ pieces_from end 0 (place + k) (line + line_feeds (take k bs)) (drop k bs)
pieces_from-skip end zero place line [] = refl
pieces_from-skip end zero place line (b ∷ bs) =
    let here : place ≡ place + 0 = omega arith in
    let same : line ≡ line + 0 = omega arith in
    λ i. pieces_from end 0 (here i) (same i) (b ∷ bs)
pieces_from-skip end (suc k) place line [] = refl
pieces_from-skip end (suc k) place line (b ∷ bs) =
    let sum : (place + 1) + k ≡ place + suc k = omega arith in
    let lines = line-more b line (take k bs) in
    pieces_from-skip end k (place + 1) (line_behind b line) bs ∙ (λ i. pieces_from end 0 (sum i) (lines i) (drop k bs))

opened : (text : List ℕ) (place : ℕ) → place < length text
    → drop place text ≡ get_or text place 0 ∷ drop (place + 1) text
opened text place inside = rw add-one (drop-cons text place 0 inside)

-- `&text[place..]`
pub range_from : (text : List ℕ) (place : ℕ) → take (length text - place) (drop place text) ≡ drop place text
range_from text place = take_all (length text - place) (drop place text) (omega (arith, length-drop place text))

-- what stands at a place, and the pieces after it
abbrev next : Option ℕ → Cut → ℕ → ℕ → ℕ → List ℕ → List Piece
next end cut place line b bs =
    pieces_with end cut place line (λ n. pieces_from end n (place + 1) (line_behind b line) bs)

pub pieces-next : (end : Option ℕ) (text rest : List ℕ) (place line : ℕ) (cut : Cut) → place < length text
    → rest ≡ drop place text → cut ≡ cut_at (get_or rest 0 0) (drop 1 rest)
    → pieces_from end 0 place line (drop place text)
    ≡ next end cut place line (get_or text place 0) (drop (place + 1) text)
pieces-next end text rest place line cut inside is at =
    let here : cut_at (get_or text place 0) (drop (place + 1) text) ≡ cut =
    ap (λ l. cut_at (get_or l 0 0) (drop 1 l)) (sym (opened text place inside) ∙ sym is) ∙ sym at in
    ap (pieces_from end 0 place line) (opened text place inside)
    ∙ ap (λ x. next end x place line (get_or text place 0) (drop (place + 1) text)) here

pub pieces-behind : (end : Option ℕ) (text rest : List ℕ) (place line more len : ℕ) → place < length text
    → rest ≡ drop place text → more ≡ len - 1 → 1 ≤ len
    → pieces_from end more (place + 1) (line_behind (get_or text place 0) line) (drop (place + 1) text)
    ≡ pieces_from end 0 (place + len) (line + line_feeds (take len rest)) (drop (place + len) text)
pieces-behind end text rest place line more len inside is less some =
    let size : suc more ≡ len = omega arith in
    ap (pieces_from end (suc more) place line) (sym (opened text place inside))
    ∙ pieces_from-skip end (suc more) place line (drop place text)
    ∙ ap (λ n. pieces_from end 0 (place + n) (line + line_feeds (take n (drop place text))) (drop n (drop place text)))
    size
    ∙ ap (λ l. pieces_from end 0 (place + len) (line + line_feeds (take len l)) (drop len (drop place text))) (sym is)
    ∙ ap (pieces_from end 0 (place + len) (line + line_feeds (take len rest))) (drop-drop len place text)

-- whitespace or a comment
pub pieces-gap : (end : Option ℕ) (text rest : List ℕ) (place line len : ℕ) → place < length text
    → rest ≡ drop place text → 1 ≤ len → gap (len - 1) ≡ cut_at (get_or rest 0 0) (drop 1 rest)
    → pieces_from end 0 place line (drop place text)
    ≡ pieces_from end 0 (place + len) (line + line_feeds (take len rest)) (drop (place + len) text)
pieces-gap end text rest place line len inside is some at =
    pieces-next end text rest place line (gap (len - 1)) inside is at
    ∙ pieces-behind end text rest place line (len - 1) len inside is refl some

-- a token
pub pieces-token : (end : Option ℕ) (text rest : List ℕ) (place line len : ℕ) (x : Lexeme) → place < length text
    → rest ≡ drop place text → 1 ≤ len → x.more ≡ len - 1 → token x ≡ cut_at (get_or rest 0 0) (drop 1 rest)
    → pieces_from end 0 place line (drop place text)
    ≡ whole (token_of place line x) (place + len)
    ∷ pieces_from end 0 (place + len) (line + line_feeds (take len rest)) (drop (place + len) text)
pieces-token end text rest place line len x inside is some less at =
    let there : place + (x.more + 1) ≡ place + len = omega arith in
    pieces-next end text rest place line (token x) inside is at
    ∙ (λ i. whole (token_of place line x) (there i)
    ∷ pieces-behind end text rest place line x.more len inside is less some i)

-- the end
pub pieces-end : (end : Option ℕ) (text : List ℕ) (place line : ℕ) → length text ≤ place
    → pieces_from end 0 place line (drop place text) ≡ end_pieces end
pieces-end end text place line outside = ap (pieces_from end 0 place line) (drop_of_length-le text outside)

mark-lines : (text : List ℕ) (v : Bool) → starts_with nat_eq text byte_order_mark ≡ v
    → line_feeds (take (cond v 3 0) text) ≡ 0
mark-lines text true is =
    ap line_feeds (begins-with_mark text is)
mark-lines text false is = refl

-- the first piece stands after the byte order mark, on the first line
pub pieces-mark : (end : Option ℕ) (text : List ℕ)
    → pieces_from end 0 (mark_len text) 1 (drop (mark_len text) text) ≡ front_pieces end text
pieces-mark end text =
    let none : 1 + line_feeds (take (mark_len text) text) ≡ 1 =
    omega (arith, mark-lines text (starts_with nat_eq text byte_order_mark) refl) in
    let start : 0 + mark_len text ≡ mark_len text = omega arith in
    sym (pieces_from-skip end (mark_len text) 0 1 text
    ∙ (λ i. pieces_from end 0 (start i) (none i) (drop (mark_len text) text)))

-- ---- what is told

-- what is read where these tokens stand before
abbrev pub with_tokens : List PlainToken → Result DocumentTokens TextFault → Result DocumentTokens TextFault
with_tokens ts (Ok r) = Ok (record { tokens = ts ++ r.tokens; place_behind = r.place_behind })
with_tokens ts (Err fault) = Err fault

pub with_none : (r : Result DocumentTokens TextFault) → with_tokens [] r ≡ r
with_none (Ok r) = refl
with_none (Err fault) = refl

-- one more token is told
told_more : (told : List PlainToken) (t : PlainToken) (rest : Result DocumentTokens TextFault)
    → with_tokens (told ++ t ∷ []) rest ≡ with_tokens told (with_token t rest)
told_more told t (Err fault) = refl
told_more told t (Ok r) =
    ap (λ (l : List PlainToken). Ok (record { tokens = l; place_behind = r.place_behind }))
    (append_assoc told (t ∷ []) r.tokens)

pub front_with : (end : ℕ) (m : Met) (t : PlainToken) (behind : ℕ) (ps : List Piece) (v : Bool) → is_last m t ≡ v
    → document_front end m (whole t behind ∷ ps)
    ≡ cond v (Ok (record { tokens = t ∷ []; place_behind = behind }))
    (with_token t (document_front end (met_after t.kind t.text m) ps))
front_with end m t behind ps v e =
    ap (λ w. cond w (Ok (record { tokens = t ∷ []; place_behind = behind }))
    (with_token t (document_front end (met_after t.kind t.text m) ps)))
    e

-- a token that is not the document's last
pub told_token : (end : ℕ) (m next_met : Met) (t : PlainToken) (behind : ℕ) (here ps : List Piece)
    (told new : List PlainToken) (all : Result DocumentTokens TextFault)
    → here ≡ whole t behind ∷ ps → is_last m t ≡ false → next_met ≡ met_after t.kind t.text m → new ≡ told ++ t ∷ []
    → with_tokens told (document_front end m here) ≡ all → with_tokens new (document_front end next_met ps) ≡ all
told_token end m next_met t behind here ps told new all at go_on met listed before =
    (λ i. with_tokens (listed i) (document_front end (met i) ps))
    ∙ told_more told t (document_front end (met_after t.kind t.text m) ps)
    ∙ ap (with_tokens told) (sym (front_with end m t behind ps false go_on))
    ∙ ap (λ (l : List Piece). with_tokens told (document_front end m l)) (sym at)
    ∙ before

-- the document's last token
pub told_last : (end : ℕ) (m : Met) (t : PlainToken) (behind : ℕ) (here ps : List Piece) (told new : List PlainToken)
    (all : Result DocumentTokens TextFault)
    → here ≡ whole t behind ∷ ps → is_last m t ≡ true → new ≡ told ++ t ∷ []
    → with_tokens told (document_front end m here) ≡ all
    → all ≡ Ok (record { tokens = new; place_behind = behind })
told_last end m t behind here ps told new all at last listed before =
    sym before
    ∙ ap (λ (l : List Piece). with_tokens told (document_front end m l)) at
    ∙ ap (with_tokens told) (front_with end m t behind ps true last)
    ∙ ap (λ (l : List PlainToken). Ok (record { tokens = l; place_behind = behind })) (sym listed)

-- ---- readings and faults

pub read_or_faulty : (r : Result DocumentTokens TextFault) → is_some (result_err r) ≡ not (is_some (result_ok r))
read_or_faulty (Ok r) = refl
read_or_faulty (Err fault) = refl
