-- The tokens and the items of a text are UTF-8, and of bytes that may stand there.
use Rattle.std.proofs.Common.{◌≡◌, ℕ, zero, suc, ◌+◌, ◌-◌, ◌<◌, ◌≤◌, Bool, true, false, cond, ◌||◌, List, [], ◌∷◌, ◌++◌}
use Rattle.std.proofs.Common.{length, get_or, take, drop, Option, Some, None, Result, Ok, Err, refl, ap, sym, ◌∙◌}
use Rattle.std.proofs.Common.{subst, arith, nat_eq}
use Rattle.std.proofs.lemmas.Grind.{common_steps}
use Rattle.std.proofs.lemmas.Str.{IsUtf8-nil, IsUtf8-take, IsUtf8-drop, IsUtf8-from_is_utf8}
use Rattle.std.proofs.lemmas.Str.{IsCharBoundary-before_ascii, IsCharBoundary-after_ascii}
use Rattle.std.specs.List.{list_all, prefix_len, starts_with}
use Rattle.std.specs.Result.{result_ok}
use Rattle.std.specs.Str.{IsUtf8, IsCharBoundary, is_utf8}
use Rattle.std.specs.Str.Lossy.{valid_len_up_to, utf8_valid_len}
use Rattle.std.proofs.lemmas.Bool.{and_from}
use Rattle.ofn_tree.specs.declared.token.Kind.{Kind}
use Rattle.ofn_tree.specs.declared.token.Kind.TheVariants.{OpenBracket, CloseBracket, Equals, Iri, String, Tag, Carets}
use Rattle.ofn_tree.specs.declared.token.Kind.TheVariants.{Name}
use Rattle.ofn_tree.specs.declared.fault.TextFault.{TextFault}
use Rattle.ofn_tree.specs.Token.{PlainToken}
use Rattle.ofn_tree.specs.Lexemes.{is_whitespace, is_iri_byte, is_name_byte, is_tag_byte, is_comment_byte, line_behind}
use Rattle.ofn_tree.specs.Lexemes.{Lexeme, Cut, gap, wrong, unended, cut_short, sign_at, Quoted, closes, breaks}
use Rattle.ofn_tree.specs.Lexemes.{runs_on, longer, quoted, string_at, tag_at, carets_at, iri_at, name_at, cut_at}
use Rattle.ofn_tree.specs.Lexemes.{Piece, whole, faulty, end_pieces, token_of, pieces_with, pieces_from, utf8_front}
use Rattle.ofn_tree.specs.Lexemes.{byte_order_mark, mark_len, bad_byte_line, pieces}
use Rattle.ofn_tree.specs.Lexemes as lexemes
use Rattle.ofn_tree.specs.Document.{Met, DocumentTokens, is_last, met_after, nothing_met, with_token, document_front}
use Rattle.ofn_tree.specs.Document.{document, reading}
use Rattle.ofn_tree.specs.Items.{Item, name_item, iri_item, literal_item, sign_item, group_item, Items, no_items, item}
use Rattle.ofn_tree.specs.Items.{items_of, Mark, opening, closing, single, mark_of, mark_at, is_head, unmarked}
use Rattle.ofn_tree.specs.Items.{marks_from, written, written_all, IsTree}
use Rattle.ofn_tree.proofs.Boundaries.{at_stop, behind_tag, behind_mark, space-low, name_stop-low, comment_stop-low}
use Rattle.text_laws.proofs.Checks.{eq_true}

-- ---- bytes of a token

pub record IsGood (p : ℕ → Bool) (w : List ℕ) : Type 0 where
  pub bytes : list_all p w ≡ true
  pub utf8 : IsUtf8 w

-- what is known of a token of a kind
abbrev IsGoodText : Kind → List ℕ → Type 0
IsGoodText Iri w = IsGood is_iri_byte w
IsGoodText Name w = IsGood is_name_byte w
IsGoodText OpenBracket w = Unit {0}
IsGoodText CloseBracket w = Unit {0}
IsGoodText Equals w = Unit {0}
IsGoodText String w = Unit {0}
IsGoodText Tag w = Unit {0}
IsGoodText Carets w = Unit {0}

abbrev IsGoodCut : List ℕ → Cut → Type 0
IsGoodCut bs (gap n) = IsUtf8 (drop n bs)
IsGoodCut bs (lexemes.token x) = IsGoodText x.kind x.text × IsUtf8 (drop x.more bs)
IsGoodCut bs wrong = Unit {0}
IsGoodCut bs unended = Unit {0}

either : {X : Type 0} (P : X → Type 0) (x y : X) (v : Bool) → (v ≡ true → P x) → (v ≡ false → P y) → P (cond v x y)
either P x y true first second = first refl
either P x y false first second = second refl

-- the rest behind an ASCII byte
behind_low : (b : ℕ) (bs : List ℕ) → IsUtf8 (b ∷ bs) → b < 128 → IsUtf8 bs
behind_low b bs utf8 low = IsUtf8-drop (b ∷ bs) 1 utf8 (IsCharBoundary-after_ascii (b ∷ bs) 0 utf8 (omega arith) low)

inside_of : (bs : List ℕ) (n b : ℕ) → get_or bs n 0 ≡ suc b → n < length bs
inside_of [] n b h = cc
inside_of (c ∷ bs) zero b h = omega arith
inside_of (c ∷ bs) (suc n) b h = omega (arith, inside_of bs n b h)

passing : (p : ℕ → Bool) (bs : List ℕ) → list_all p (take (prefix_len p bs) bs) ≡ true
passing p [] = refl
passing p (b ∷ bs) =
    either (λ n. list_all p (take n (b ∷ bs)) ≡ true) (1 + prefix_len p bs) 0 (p b) (λ h. passes (passing p bs) h)
    (λ h. refl)
  where
    passes : list_all p (take (prefix_len p bs) bs) ≡ true → p b ≡ true
        → list_all p (take (1 + prefix_len p bs) (b ∷ bs)) ≡ true
    passes rest h =
        let e : 1 + prefix_len p bs ≡ suc (prefix_len p bs) = omega arith in
        ap (λ k. list_all p (take k (b ∷ bs))) e ∙ and_from (p b) (list_all p (take (prefix_len p bs) bs)) h rest

same_rest : (b : ℕ) (bs : List ℕ) → bs ≡ take (length (b ∷ bs) - 1) (drop 1 (b ∷ bs))
same_rest b bs = grind (arith, common_steps)

front_of : (b : ℕ) (bs : List ℕ) (n k : ℕ) → k ≡ suc n → IsUtf8 (b ∷ bs) → IsCharBoundary (b ∷ bs) k
    → IsUtf8 (b ∷ take n bs) × IsUtf8 (drop n bs)
front_of b bs n k is utf8 boundary =
    let there : IsCharBoundary (b ∷ bs) (suc n) = subst (IsCharBoundary (b ∷ bs)) is boundary in
    (IsUtf8-take (b ∷ bs) (suc n) utf8 there, IsUtf8-drop (b ∷ bs) (suc n) utf8 there)

iri_cut : (bs : List ℕ) → IsUtf8 bs → IsGoodCut bs (iri_at (prefix_len is_iri_byte bs) bs)
iri_cut bs utf8 =
    let n : ℕ = prefix_len is_iri_byte bs in
    either (IsGoodCut bs) (lexemes.token (record { kind = Iri; text = take n bs; more = n + 1 }))
    (cut_short (drop n bs)) (nat_eq (get_or bs n 0) 62)
    (λ h.
    let closed : get_or bs n 0 ≡ 62 = eq_true (get_or bs n 0) 62 h in
    let inside : n < length bs = inside_of bs n 61 closed in (
      record {
        bytes = passing is_iri_byte bs;
        utf8 = IsUtf8-take bs n utf8 (IsCharBoundary-before_ascii bs n inside (omega (arith, closed)));
      },
      IsUtf8-drop bs (n + 1) utf8 (IsCharBoundary-after_ascii bs n utf8 inside (omega (arith, closed))),
    ))
    (λ h. short (drop n bs))
  where
    short : (ds : List ℕ) → IsGoodCut bs (cut_short ds)
    short [] = tt
    short (d ∷ ds) = tt

name_cut : (b : ℕ) (bs : List ℕ) → IsUtf8 (b ∷ bs) → is_name_byte b ≡ true
    → IsGoodCut bs (name_at (prefix_len is_name_byte bs) b bs)
name_cut b bs utf8 h =
    let n : ℕ = prefix_len is_name_byte bs in
    let both =
    front_of b bs n (1 + n) (omega arith) utf8
    (at_stop is_name_byte name_stop-low (b ∷ bs) bs n (omega arith) (same_rest b bs) refl) in (
      record {
        bytes = and_from (is_name_byte b) (list_all is_name_byte (take n bs)) h (passing is_name_byte bs);
        utf8 = both.0;
      },
      both.1,
    )

comment_cut : (b : ℕ) (bs : List ℕ) → IsUtf8 (b ∷ bs) → IsGoodCut bs (gap (prefix_len is_comment_byte bs))
comment_cut b bs utf8 =
    let n : ℕ = prefix_len is_comment_byte bs in
    (front_of b bs n (1 + n) (omega arith) utf8
    (at_stop is_comment_byte comment_stop-low (b ∷ bs) bs n (omega arith) (same_rest b bs) refl)).1

-- where a string closes
abbrev Closes : List ℕ → Quoted → Type 0
Closes bs (closes n) = (n < length bs) × (get_or bs n 0 ≡ 34)
Closes bs breaks = Unit {0}
Closes bs runs_on = Unit {0}

longer_closes : (b : ℕ) (bs : List ℕ) (q : Quoted) → Closes bs q → Closes (b ∷ bs) (longer q)
longer_closes b bs (closes n) h =
    let e : n + 1 ≡ suc n = omega arith in
    (omega (arith, h.0), ap (λ k. get_or (b ∷ bs) k 0) e ∙ h.1)
longer_closes b bs breaks h = tt
longer_closes b bs runs_on h = tt

quoted_closes : (v : Bool) (bs : List ℕ) → Closes bs (quoted v bs)
quoted_closes true [] = tt
quoted_closes false [] = tt
quoted_closes true (b ∷ bs) =
    let rest : Closes (b ∷ bs) (longer (quoted false bs)) =
    longer_closes b bs (quoted false bs) (quoted_closes false bs) in
    either (Closes (b ∷ bs)) (longer (quoted false bs)) breaks (nat_eq b 34 || nat_eq b 92) (λ h. rest) (λ h. tt)
quoted_closes false (b ∷ bs) =
    let rest : Closes (b ∷ bs) (longer (quoted (nat_eq b 92) bs)) =
    longer_closes b bs (quoted (nat_eq b 92) bs) (quoted_closes (nat_eq b 92) bs) in
    either (Closes (b ∷ bs)) (closes 0) (longer (quoted (nat_eq b 92) bs)) (nat_eq b 34)
    (λ h. (omega arith, eq_true b 34 h)) (λ h. rest)

string_cut : (bs : List ℕ) → IsUtf8 bs → (q : Quoted) → Closes bs q → IsGoodCut bs (string_at q bs)
string_cut bs utf8 (closes n) h =
    (tt, IsUtf8-drop bs (n + 1) utf8 (IsCharBoundary-after_ascii bs n utf8 h.0 (omega (arith, h.1))))
string_cut bs utf8 breaks h = tt
string_cut bs utf8 runs_on h = tt

short_cut : (bs ds : List ℕ) → IsGoodCut bs (cut_short ds)
short_cut bs [] = tt
short_cut bs (d ∷ ds) = tt

some_of : (n : ℕ) → nat_eq n 0 ≡ false → 1 ≤ n
some_of n h = grind (arith, common_steps, h)

tag_cut : (b : ℕ) (bs : List ℕ) → IsUtf8 (b ∷ bs) → IsGoodCut bs (tag_at (prefix_len is_tag_byte bs) b bs)
tag_cut b bs utf8 =
    let n : ℕ = prefix_len is_tag_byte bs in
    either (IsGoodCut bs) (cut_short bs) (lexemes.token (record { kind = Tag; text = b ∷ take n bs; more = n }))
    (nat_eq n 0)
    (λ h. short_cut bs bs)
    (λ h. (
      tt,
      (front_of b bs n (n + 1) (omega arith) utf8
          (behind_tag (b ∷ bs) bs n utf8 (omega arith) (same_rest b bs) refl (some_of n h))).1,
    ))

carets_cut : (b : ℕ) (bs : List ℕ) → IsUtf8 bs → IsGoodCut bs (carets_at b bs)
carets_cut b bs utf8 =
    either (IsGoodCut bs) (lexemes.token (record { kind = Carets; text = b ∷ take 1 bs; more = 1 })) (cut_short bs)
    (nat_eq (get_or bs 0 0) 94)
    (λ h.
    let caret : get_or bs 0 0 ≡ 94 = eq_true (get_or bs 0 0) 94 h in
    (tt, IsUtf8-drop bs 1 utf8 (IsCharBoundary-after_ascii bs 0 utf8 (inside_of bs 0 93 caret) (omega (arith, caret)))))
    (λ h. short_cut bs bs)

cut_good : (b : ℕ) (bs : List ℕ) → IsUtf8 (b ∷ bs) → IsGoodCut bs (cut_at b bs)
cut_good b bs utf8 =
    let rest : (k : ℕ) → k < 128 → nat_eq b k ≡ true → IsUtf8 bs =
    λ k low h. behind_low b bs utf8 (omega (arith, eq_true b k h, low)) in
    let good : Cut → Type 0 = IsGoodCut bs in
    let last : Cut = cond (is_name_byte b) (name_at (prefix_len is_name_byte bs) b bs) wrong in
    let caret : Cut = cond (nat_eq b 94) (carets_at b bs) last in
    let tag : Cut = cond (nat_eq b 64) (tag_at (prefix_len is_tag_byte bs) b bs) caret in
    let string : Cut = cond (nat_eq b 34) (string_at (quoted false bs) bs) tag in
    let iri : Cut = cond (nat_eq b 60) (iri_at (prefix_len is_iri_byte bs) bs) string in
    let equals : Cut = cond (nat_eq b 61) (sign_at Equals b) iri in
    let close : Cut = cond (nat_eq b 41) (sign_at CloseBracket b) equals in
    let open_ : Cut = cond (nat_eq b 40) (sign_at OpenBracket b) close in
    let comment : Cut = cond (nat_eq b 35) (gap (prefix_len is_comment_byte bs)) open_ in
    either good (gap 0) comment (is_whitespace b) (λ h. behind_low b bs utf8 (space-low b h)) (λ _.
    either good (gap (prefix_len is_comment_byte bs)) open_ (nat_eq b 35) (λ h. comment_cut b bs utf8) (λ _.
    either good (sign_at OpenBracket b) close (nat_eq b 40) (λ h. (tt, rest 40 (omega arith) h)) (λ _.
    either good (sign_at CloseBracket b) equals (nat_eq b 41) (λ h. (tt, rest 41 (omega arith) h)) (λ _.
    either good (sign_at Equals b) iri (nat_eq b 61) (λ h. (tt, rest 61 (omega arith) h)) (λ _.
    either good (iri_at (prefix_len is_iri_byte bs) bs) string (nat_eq b 60) (λ h. iri_cut bs (rest 60 (omega arith) h))
    (λ _.
    either good (string_at (quoted false bs) bs) tag (nat_eq b 34)
    (λ h. string_cut bs (rest 34 (omega arith) h) (quoted false bs) (quoted_closes false bs)) (λ _.
    either good (tag_at (prefix_len is_tag_byte bs) b bs) caret (nat_eq b 64) (λ h. tag_cut b bs utf8) (λ _.
    either good (carets_at b bs) last (nat_eq b 94) (λ h. carets_cut b bs (rest 94 (omega arith) h)) (λ _.
    either good (name_at (prefix_len is_name_byte bs) b bs) wrong (is_name_byte b) (λ h. name_cut b bs utf8 h)
    (λ _. tt))))))))))

-- ---- pieces and tokens

abbrev AreGoodPieces : List Piece → Type 0
AreGoodPieces [] = Unit {0}
AreGoodPieces (whole t behind ∷ ps) = IsGoodText t.kind t.text × AreGoodPieces ps
AreGoodPieces (faulty fault ∷ ps) = AreGoodPieces ps

abbrev pub AreGoodTokens : List PlainToken → Type 0
AreGoodTokens [] = Unit {0}
AreGoodTokens (t ∷ ts) = IsGoodText t.kind t.text × AreGoodTokens ts

with_good : (bad : Option ℕ) (bs : List ℕ) (c : Cut) (place n : ℕ) (go : ℕ → List Piece) → IsGoodCut bs c
    → ((k : ℕ) → IsUtf8 (drop k bs) → AreGoodPieces (go k)) → AreGoodPieces (pieces_with bad c place n go)
with_good bad bs (gap k) place n go good rest = rest k good
with_good bad bs (lexemes.token x) place n go good rest = (good.0, rest x.more good.1)
with_good bad bs wrong place n go good rest = tt
with_good bad bs unended place n go good rest = tt

end_good : (bad : Option ℕ) → AreGoodPieces (end_pieces bad)
end_good None = tt
end_good (Some n) = tt

pieces_good : (bad : Option ℕ) (k place n : ℕ) (bs : List ℕ) → IsUtf8 (drop k bs)
    → AreGoodPieces (pieces_from bad k place n bs)
pieces_good bad zero place n [] utf8 = end_good bad
pieces_good bad (suc k) place n [] utf8 = end_good bad
pieces_good bad (suc k) place n (b ∷ bs) utf8 = pieces_good bad k (place + 1) (line_behind b n) bs utf8
pieces_good bad zero place n (b ∷ bs) utf8 =
    with_good bad bs (cut_at b bs) place n (λ k. pieces_from bad k (place + 1) (line_behind b n) bs)
    (cut_good b bs utf8) (λ k h. pieces_good bad k (place + 1) (line_behind b n) bs h)

valid_front : (bs : List ℕ) (m : ℕ) → IsUtf8 (take (valid_len_up_to bs m) bs)
valid_front bs zero = IsUtf8-nil
valid_front bs (suc m) =
    either (λ n. IsUtf8 (take n bs)) (suc m) (valid_len_up_to bs m) (is_utf8 (take (suc m) bs))
    (λ h. IsUtf8-from_is_utf8 (take (suc m) bs) h) (λ h. valid_front bs m)

front_utf8 : (text : List ℕ) → IsUtf8 (take (utf8_valid_len text) text)
unfolding utf8_valid_len
front_utf8 text = valid_front text (length text)

behind_front : (front : List ℕ) → IsUtf8 front → IsUtf8 (drop (mark_len front) front)
behind_front front utf8 =
    either (λ n. IsUtf8 (drop n front)) 3 0 (starts_with nat_eq front byte_order_mark)
    (λ h. IsUtf8-drop front 3 utf8 (behind_mark front utf8 h)) (λ h. utf8)

all_pieces_good : (text : List ℕ) → AreGoodPieces (pieces text)
all_pieces_good text =
    pieces_good (bad_byte_line text) (mark_len (utf8_front text)) 0 1 (utf8_front text)
    (behind_front (utf8_front text) (front_utf8 text))

abbrev IsGoodReading : Result DocumentTokens TextFault → Type 0
IsGoodReading (Ok r) = AreGoodTokens r.tokens
IsGoodReading (Err fault) = Unit {0}

with_token_good : (t : PlainToken) (r : Result DocumentTokens TextFault) → IsGoodText t.kind t.text → IsGoodReading r
    → IsGoodReading (with_token t r)
with_token_good t (Ok r) good rest = (good, rest)
with_token_good t (Err fault) good rest = tt

front_good : (end : ℕ) (m : Met) (ps : List Piece) → AreGoodPieces ps → IsGoodReading (document_front end m ps)
front_good end m [] good = tt
front_good end m (faulty fault ∷ ps) good = tt
front_good end m (whole t behind ∷ ps) good =
    either IsGoodReading (Ok (record { tokens = t ∷ []; place_behind = behind }))
    (with_token t (document_front end (met_after t.kind t.text m) ps)) (is_last m t)
    (λ h. (good.0, tt))
    (λ h. with_token_good t (document_front end (met_after t.kind t.text m) ps) good.0
    (front_good end (met_after t.kind t.text m) ps good.1))

ok_good : (r : Result DocumentTokens TextFault) (x : DocumentTokens) → result_ok r ≡ Some x → IsGoodReading r
    → AreGoodTokens x.tokens
ok_good (Ok y) x is good = let same : y ≡ x = cc in subst (λ (z : DocumentTokens). AreGoodTokens z.tokens) same good
ok_good (Err fault) x is good = let clash : None ≡ Some x = is in absurd (cc clash)

pub tokens_good : (text : List ℕ) (r : DocumentTokens) → reading text ≡ Some r → AreGoodTokens r.tokens
tokens_good text r is =
    ok_good (document text) r is (front_good (length text) nothing_met (pieces text) (all_pieces_good text))

-- ---- marks and items

abbrev mutual
  pub IsGoodItem : Item → Type 0
  IsGoodItem (name_item w n) = IsGood is_name_byte w
  IsGoodItem (iri_item w n) = IsGood is_iri_byte w
  IsGoodItem (literal_item n) = Unit {0}
  IsGoodItem (sign_item k n) = Unit {0}
  IsGoodItem (group_item h is n) = AreGoodItems is

  pub AreGoodItems : Items → Type 0
  AreGoodItems no_items = Unit {0}
  AreGoodItems (item i is) = IsGoodItem i × AreGoodItems is

abbrev IsGoodMark : Mark → Type 0
IsGoodMark (opening h n) = Unit {0}
IsGoodMark closing = Unit {0}
IsGoodMark (single i) = IsGoodItem i

abbrev AreGoodMarks : List Mark → Type 0
AreGoodMarks [] = Unit {0}
AreGoodMarks (m ∷ ms) = IsGoodMark m × AreGoodMarks ms

mark_good : (k : Kind) (w : List ℕ) (n : ℕ) → IsGoodText k w → IsGoodMark (mark_of k w n)
mark_good OpenBracket w n good = tt
mark_good CloseBracket w n good = tt
mark_good Iri w n good = good
mark_good String w n good = tt
mark_good Name w n good = good
mark_good Equals w n good = tt
mark_good Tag w n good = tt
mark_good Carets w n good = tt

mark_at_good : (v : Bool) (t : PlainToken) → IsGoodText t.kind t.text → IsGoodMark (mark_at v t)
mark_at_good true t good = tt
mark_at_good false t good = mark_good t.kind t.text t.line good

marks_good : (k : ℕ) (ts : List PlainToken) → AreGoodTokens ts → AreGoodMarks (marks_from k ts)
marks_good zero [] good = tt
marks_good (suc k) [] good = tt
marks_good (suc k) (t ∷ ts) good = marks_good k ts good.1
marks_good zero (t ∷ ts) good = (mark_at_good (is_head t ts) t good.0, marks_good (unmarked t ts) ts good.1)

both_good : (ms ns : List Mark) → AreGoodMarks (ms ++ ns) → AreGoodMarks ms × AreGoodMarks ns
both_good [] ns good = (tt, good)
both_good (m ∷ ms) ns good = let rest = both_good ms ns good.1 in ((good.0, rest.0), rest.1)

mutual
  item_good : (i : Item) → AreGoodMarks (written i) → IsGoodItem i
  item_good (name_item w n) good = good.0
  item_good (iri_item w n) good = good.0
  item_good (literal_item n) good = tt
  item_good (sign_item k n) good = tt
  item_good (group_item h is n) good = items_good is (both_good (written_all is) (closing ∷ []) good.1).0

  items_good : (is : Items) → AreGoodMarks (written_all is) → AreGoodItems is
  items_good no_items good = tt
  items_good (item i is) good =
      let both = both_good (written i) (written_all is) good in (item_good i both.0, items_good is both.1)

pub tree_good : (ts : List PlainToken) (is : List Item) → IsTree ts is → AreGoodTokens ts → AreGoodItems (items_of is)
tree_good ts is tree good = items_good (items_of is) (subst AreGoodMarks (sym tree.made) (marks_good 0 ts good))
