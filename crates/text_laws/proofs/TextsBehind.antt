-- A text whose document is followed by another text is cut as before, up to the end of the document.
use Rattle.std.proofs.Common.{◌≡◌, ℕ, zero, suc, ◌+◌, ◌-◌, ◌<◌, ◌≤◌, Bool, true, false, cond, ◌&&◌, ◌||◌, List, [], ◌∷◌}
use Rattle.std.proofs.Common.{◌++◌, length, get_or, take, drop, Option, Some, None, Result, Ok, Err, refl, ap, sym, ◌∙◌}
use Rattle.std.proofs.Common.{subst, arith, nat_eq, length-append}
use Rattle.std.specs.List.{prefix_len}
use Rattle.std.specs.Str.{IsUtf8, is_utf8}
use Rattle.std.specs.Str.Lossy.{utf8_valid_len, valid_len_up_to}
use Rattle.std.proofs.lemmas.Bool.{and_parts}
use Rattle.std.proofs.lemmas.List.{take-append-drop, length-take-le}
use Rattle.std.proofs.lemmas.Str.{utf8_valid_len_le, IsUtf8-take, IsUtf8-nil, IsUtf8-from_is_utf8, is_utf8-from_IsUtf8}
use Rattle.std.proofs.lemmas.Str.{IsCharBoundary-after_ascii}
use Rattle.ofn_tree.specs.declared.token.Kind.TheVariants.{OpenBracket, CloseBracket, Equals, Iri, String, Tag, Carets}
use Rattle.ofn_tree.specs.declared.token.Kind.TheVariants.{Name}
use Rattle.ofn_tree.specs.declared.fault.TextFault.{TextFault}
use Rattle.ofn_tree.specs.Token.{PlainToken, is_close}
use Rattle.ofn_tree.specs.Lexemes.{Lexeme, Cut, gap, token, wrong, unended, cut_short, iri_at, Quoted, closes, breaks}
use Rattle.ofn_tree.specs.Lexemes.{runs_on, longer, quoted, string_at, tag_at, carets_at, name_at, sign_at, cut_at}
use Rattle.ofn_tree.specs.Lexemes.{is_whitespace, is_comment_byte, is_iri_byte, is_tag_byte, is_name_byte, line_behind}
use Rattle.ofn_tree.specs.Lexemes.{Piece, faulty, token_of, pieces_with, pieces_from, mark_len, utf8_front}
use Rattle.ofn_tree.specs.Lexemes.{bad_byte_line, front_pieces, pieces}
use Rattle.ofn_tree.specs.Document.{Met, DocumentTokens, nothing_met, is_last, met_after, document_front, with_token}
use Rattle.ofn_tree.proofs.Slices.{take_of_take}

-- ---- what is read ends with the document

-- the pieces begin with these tokens, of which the last one closes the document's group: whatever ends the text
abbrev pub EndsAs : Met → List Piece → DocumentTokens → Type 0
EndsAs m ps r = (end : ℕ) → document_front end m ps ≡ Ok r

abbrev place_in : Result DocumentTokens TextFault → ℕ
place_in (Ok r) = r.place_behind
place_in (Err fault) = 0

pub no_end : (m : Met) (r : DocumentTokens) → EndsAs m [] r → ⊥
no_end m r h = let clash : 0 ≡ 1 = ap place_in (h 0) ∙ sym (ap place_in (h 1)) in absurd (omega (arith, clash))

pub no_fault : (m : Met) (fault : TextFault) (ps : List Piece) (r : DocumentTokens) → EndsAs m (faulty fault ∷ ps) r → ⊥
no_fault m fault ps r h =
    let clash : ◌≡◌ {A = Result DocumentTokens TextFault} (Err fault) (Ok r) = h 0 in absurd (cc clash)

-- what is read behind the first token
abbrev pub less : DocumentTokens → DocumentTokens
less r = record { tokens = drop 1 r.tokens; place_behind = r.place_behind }

pub less_ok : (t : PlainToken) (o : Result DocumentTokens TextFault) (r : DocumentTokens) → with_token t o ≡ Ok r
    → o ≡ Ok (less r)
less_ok t (Ok x) r h =
    let got : ◌≡◌ {A = DocumentTokens} (record { tokens = t ∷ x.tokens; place_behind = x.place_behind }) r = cc h in
    ap (λ (y : DocumentTokens). Ok (less y)) got
less_ok t (Err fault) r h =
    let clash : ◌≡◌ {A = Result DocumentTokens TextFault} (Err fault) (Ok r) = h in absurd (cc clash)

pub ok_more : (t : PlainToken) (o : Result DocumentTokens TextFault) (r : DocumentTokens) → with_token t o ≡ Ok r
    → with_token t (Ok (less r)) ≡ Ok r
ok_more t o r h = ap (with_token t) (sym (less_ok t o r h)) ∙ h

last_closes : (m : Met) (t : PlainToken) → is_last m t ≡ true → is_close t.kind ≡ true
last_closes m t last =
    (and_parts (is_close t.kind) (nat_eq m.depth 1)
    (and_parts (is_close t.kind && nat_eq m.depth 1) m.document last).0).0

-- ---- a closing bracket is one byte

pub same_number : (a b : ℕ) → nat_eq a b ≡ true → a ≡ b
same_number a b h = grind (arith, h)

abbrev ClosesAlone : ℕ → Cut → Type 0
ClosesAlone b (gap more) = Unit {0}
ClosesAlone b (token x) = is_close x.kind ≡ true → (b ≡ 41) × (x.more ≡ 0)
ClosesAlone b wrong = Unit {0}
ClosesAlone b unended = Unit {0}

short-alone : (b : ℕ) (bs : List ℕ) → ClosesAlone b (cut_short bs)
short-alone b [] = tt
short-alone b (c ∷ bs) = tt

quoted-alone : (b : ℕ) (q : Quoted) (bs : List ℕ) → ClosesAlone b (string_at q bs)
quoted-alone b (closes n) bs = λ h. absurd (cc h)
quoted-alone b breaks bs = tt
quoted-alone b runs_on bs = tt

alone_by : (b : ℕ) (v : Bool) (x y : Cut) → (v ≡ true → ClosesAlone b x) → ClosesAlone b y → ClosesAlone b (cond v x y)
alone_by b true x y first rest = first refl
alone_by b false x y first rest = rest

cut-alone : (b : ℕ) (bs : List ℕ) → ClosesAlone b (cut_at b bs)
cut-alone b bs =
    alone_by b (is_whitespace b) (gap 0) _ (λ is. tt)
    (alone_by b (nat_eq b 35) (gap (prefix_len is_comment_byte bs)) _ (λ is. tt)
    (alone_by b (nat_eq b 40) (sign_at OpenBracket b) _ (λ is h. absurd (cc h))
    (alone_by b (nat_eq b 41) (sign_at CloseBracket b) _ (λ is h. (same_number b 41 is, refl))
    (alone_by b (nat_eq b 61) (sign_at Equals b) _ (λ is h. absurd (cc h))
    (alone_by b (nat_eq b 60) (iri_at (prefix_len is_iri_byte bs) bs) _
    (λ is. alone_by b (nat_eq (get_or bs (prefix_len is_iri_byte bs) 0) 62) _
    (cut_short (drop (prefix_len is_iri_byte bs) bs)) (λ ends h. absurd (cc h))
    (short-alone b (drop (prefix_len is_iri_byte bs) bs)))
    (alone_by b (nat_eq b 34) (string_at (quoted false bs) bs) _ (λ is. quoted-alone b (quoted false bs) bs)
    (alone_by b (nat_eq b 64) (tag_at (prefix_len is_tag_byte bs) b bs) _
    (λ is. alone_by b (nat_eq (prefix_len is_tag_byte bs) 0) (cut_short bs) _ (λ none. short-alone b bs)
    (λ h. absurd (cc h)))
    (alone_by b (nat_eq b 94) (carets_at b bs) _
    (λ is. alone_by b (nat_eq (get_or bs 0 0) 94) _ (cut_short bs) (λ two h. absurd (cc h)) (short-alone b bs))
    (alone_by b (is_name_byte b) (name_at (prefix_len is_name_byte bs) b bs) wrong (λ is h. absurd (cc h)) tt)))))))))

-- ---- the document ends behind a closing bracket

-- what is read of bytes at a place, of which the first k are skipped, ends behind a closing bracket among the others
record ClosesIn (k place : ℕ) (bs : List ℕ) (behind : ℕ) : Type 0 where
  before : ℕ
  end : behind ≡ place + suc before
  later : k ≤ before
  within : before < length bs
  bracket : get_or bs before 0 ≡ 41

one_further : (k j place b : ℕ) (bs : List ℕ) (behind : ℕ) → j ≤ suc k → ClosesIn k (place + 1) bs behind
    → ClosesIn j place (b ∷ bs) behind
one_further k j place b bs behind less_skipped c = record {
  before = suc c.before;
  end = omega (arith, c.end);
  later = omega (arith, c.later, less_skipped);
  within = omega (arith, c.within);
  bracket = c.bracket;
}

closes_at : (bad : Option ℕ) (place line b : ℕ) (bs : List ℕ) (cut : Cut) (rest : ℕ → List Piece) → ClosesAlone b cut
    → ((k : ℕ) (m : Met) (r : DocumentTokens) → EndsAs m (rest k) r → ClosesIn k (place + 1) bs r.place_behind)
    → (m : Met) (r : DocumentTokens) → EndsAs m (pieces_with bad cut place line rest) r
    → ClosesIn 0 place (b ∷ bs) r.place_behind
closes_at bad place line b bs (gap more) rest alone behind m r h =
    one_further more 0 place b bs r.place_behind (omega arith) (behind more m r h)
closes_at bad place line b bs wrong rest alone behind m r h = absurd (no_fault m _ [] r h)
closes_at bad place line b bs unended rest alone behind m r h = absurd (no_fault m _ [] r h)
closes_at bad place line b bs (token x) rest alone behind m r h = by (is_last m t) refl h
  where
    t : PlainToken
    t = token_of place line x

    by : (v : Bool) → is_last m (token_of place line x) ≡ v
        → ((end : ℕ)
        → cond v (Ok (record { tokens = token_of place line x ∷ []; place_behind = place + (x.more + 1) }))
        (with_token (token_of place line x) (document_front end (met_after x.kind x.text m) (rest x.more)))
        ≡ Ok r)
        → ClosesIn 0 place (b ∷ bs) r.place_behind
    by true last ends =
        let two = alone (last_closes m (token_of place line x) last) in
        let there : place + (x.more + 1) ≡ r.place_behind = ap place_in (ends 0) in
        record {
          before = 0;
          end = omega (arith, there, two.1);
          later = omega arith;
          within = omega arith;
          bracket = two.0;
        }
    by false go_on ends =
        one_further x.more 0 place b bs r.place_behind (omega arith)
        (behind x.more (met_after x.kind x.text m) (less r)
        (λ end. less_ok (token_of place line x) (document_front end (met_after x.kind x.text m) (rest x.more)) r
        (ends end)))

closes_in : (bad : Option ℕ) (k place line : ℕ) (bs : List ℕ) (m : Met) (r : DocumentTokens)
    → EndsAs m (pieces_from bad k place line bs) r → ClosesIn k place bs r.place_behind
closes_in None k place line [] m r h = absurd (no_end m r h)
closes_in (Some bad) k place line [] m r h = absurd (no_fault m _ [] r h)
closes_in bad (suc k) place line (b ∷ bs) m r h =
    one_further k (suc k) place b bs r.place_behind (omega arith)
    (closes_in bad k (place + 1) (line_behind b line) bs m r h)
closes_in bad zero place line (b ∷ bs) m r h =
    closes_at bad place line b bs (cut_at b bs) (λ n. pieces_from bad n (place + 1) (line_behind b line) bs)
    (cut-alone b bs)
    (λ k n s g. closes_in bad k (place + 1) (line_behind b line) bs n s g) m r h

-- ---- what stands at the front of some bytes, whatever follows them

-- whitespace, a comment or a token that ends among n bytes which stand after its first, and at least one of which
-- stands after it
abbrev EndsBefore : ℕ → Cut → Type 0
EndsBefore n (gap more) = more < n
EndsBefore n (token x) = x.more < n
EndsBefore n wrong = ⊥
EndsBefore n unended = ⊥

front_len : (p : ℕ → Bool) (w r s : List ℕ) → prefix_len p (w ++ r) < length w
    → prefix_len p (w ++ s) ≡ prefix_len p (w ++ r)
front_len p [] r s inside = absurd (omega (arith, inside))
front_len p (b ∷ w) r s inside = by (front_len p w r s) (p b) inside
  where
    by : (prefix_len p (w ++ r) < length w → prefix_len p (w ++ s) ≡ prefix_len p (w ++ r)) → (v : Bool)
        → cond v (1 + prefix_len p (w ++ r)) 0 < suc (length w)
        → cond v (1 + prefix_len p (w ++ s)) 0 ≡ cond v (1 + prefix_len p (w ++ r)) 0
    by others true more = ap (λ n. 1 + n) (others (omega (arith, more)))
    by others false more = refl

front_byte : (w r s : List ℕ) (n : ℕ) → n < length w → get_or (w ++ s) n 0 ≡ get_or (w ++ r) n 0
front_byte [] r s n inside = absurd (omega (arith, inside))
front_byte (b ∷ w) r s zero inside = refl
front_byte (b ∷ w) r s (suc n) inside = front_byte w r s n (omega (arith, inside))

front_bytes : (w r s : List ℕ) (n : ℕ) → n ≤ length w → take n (w ++ s) ≡ take n (w ++ r)
front_bytes w r s zero inside = refl
front_bytes [] r s (suc n) inside = absurd (omega (arith, inside))
front_bytes (b ∷ w) r s (suc n) inside = ap (λ (l : List ℕ). b ∷ l) (front_bytes w r s n (omega (arith, inside)))

short-never : (n : ℕ) (bs : List ℕ) (a : Type 0) → EndsBefore n (cut_short bs) → a
short-never n [] a h = absurd h
short-never n (b ∷ bs) a h = absurd h

same_by : (n : ℕ) (v : Bool) (x y s t : Cut) → (v ≡ true → EndsBefore n x → s ≡ x) → (EndsBefore n y → t ≡ y)
    → EndsBefore n (cond v x y) → cond v s t ≡ cond v x y
same_by n true x y s t first rest h = first refl h
same_by n false x y s t first rest h = rest h

-- the string that closes there
abbrev ClosesBefore : ℕ → Quoted → Type 0
ClosesBefore n (closes m) = m < n
ClosesBefore n breaks = ⊥
ClosesBefore n runs_on = ⊥

shorter : (n : ℕ) (q : Quoted) → ClosesBefore (suc n) (longer q) → ClosesBefore n q
shorter n (closes m) h = omega (arith, h)
shorter n breaks h = h
shorter n runs_on h = h

no_room : (q : Quoted) → ClosesBefore 0 q → ⊥
no_room (closes m) h = omega (arith, h)
no_room breaks h = h
no_room runs_on h = h

longer-same : (n : ℕ) (q p : Quoted) → (ClosesBefore n q → p ≡ q) → ClosesBefore (suc n) (longer q)
    → longer p ≡ longer q
longer-same n q p same h = ap longer (same (shorter n q h))

quoted_by : (n : ℕ) (v : Bool) (x y p q : Quoted) → (ClosesBefore n x → p ≡ x) → (ClosesBefore n y → q ≡ y)
    → ClosesBefore n (cond v x y) → cond v p q ≡ cond v x y
quoted_by n true x y p q first rest h = first h
quoted_by n false x y p q first rest h = rest h

quoted-same : (escaped : Bool) (w r s : List ℕ) → ClosesBefore (length w) (quoted escaped (w ++ r))
    → quoted escaped (w ++ s) ≡ quoted escaped (w ++ r)
quoted-same escaped [] r s h = absurd (no_room (quoted escaped r) h)
quoted-same true (b ∷ w) r s h =
    quoted_by (suc (length w)) (nat_eq b 34 || nat_eq b 92) (longer (quoted false (w ++ r))) breaks
    (longer (quoted false (w ++ s))) breaks
    (longer-same (length w) (quoted false (w ++ r)) (quoted false (w ++ s)) (quoted-same false w r s)) (λ g. refl) h
quoted-same false (b ∷ w) r s h =
    quoted_by (suc (length w)) (nat_eq b 34) (closes 0) (longer (quoted (nat_eq b 92) (w ++ r))) (closes 0)
    (longer (quoted (nat_eq b 92) (w ++ s))) (λ g. refl)
    (longer-same (length w) (quoted (nat_eq b 92) (w ++ r)) (quoted (nat_eq b 92) (w ++ s))
    (quoted-same (nat_eq b 92) w r s))
    h

string-before : (n : ℕ) (q : Quoted) (bs : List ℕ) → EndsBefore n (string_at q bs) → ClosesBefore n q
string-before n (closes m) bs h = omega (arith, h)
string-before n breaks bs h = h
string-before n runs_on bs h = h

module _ (w r s : List ℕ) where
  iri-same : EndsBefore (length w) (iri_at (prefix_len is_iri_byte (w ++ r)) (w ++ r))
      → iri_at (prefix_len is_iri_byte (w ++ s)) (w ++ s) ≡ iri_at (prefix_len is_iri_byte (w ++ r)) (w ++ r)
  iri-same h = by (nat_eq (get_or (w ++ r) (prefix_len is_iri_byte (w ++ r)) 0) 62) refl h
    where
      by : (v : Bool) → nat_eq (get_or (w ++ r) (prefix_len is_iri_byte (w ++ r)) 0) 62 ≡ v
          → EndsBefore (length w)
          (cond v (token (record {
            kind = Iri;
            text = take (prefix_len is_iri_byte (w ++ r)) (w ++ r);
            more = prefix_len is_iri_byte (w ++ r) + 1;
          }))
          (cut_short (drop (prefix_len is_iri_byte (w ++ r)) (w ++ r))))
          → iri_at (prefix_len is_iri_byte (w ++ s)) (w ++ s) ≡ iri_at (prefix_len is_iri_byte (w ++ r)) (w ++ r)
      by false broken inside = short-never (length w) (drop (prefix_len is_iri_byte (w ++ r)) (w ++ r)) _ inside
      by true closed inside =
          let m = prefix_len is_iri_byte (w ++ r) in
          let within : m < length w = omega (arith, inside) in
          let long : prefix_len is_iri_byte (w ++ s) ≡ m = front_len is_iri_byte w r s within in
          let byte : get_or (w ++ s) m 0 ≡ get_or (w ++ r) m 0 = front_byte w r s m within in
          let text : take m (w ++ s) ≡ take m (w ++ r) = front_bytes w r s m (omega (arith, within)) in
          ap (λ j. iri_at j (w ++ s)) long
          ∙ ap (λ c. cond (nat_eq c 62) (token (record { kind = Iri; text = take m (w ++ s); more = m + 1 }))
          (cut_short (drop m (w ++ s))))
          byte
          ∙ ap (λ v. cond v (token (record { kind = Iri; text = take m (w ++ s); more = m + 1 }))
          (cut_short (drop m (w ++ s))))
          closed
          ∙ ap (λ (l : List ℕ). token (record { kind = Iri; text = l; more = m + 1 })) text
          ∙ ap (λ v. cond v (token (record { kind = Iri; text = take m (w ++ r); more = m + 1 }))
          (cut_short (drop m (w ++ r))))
          (sym closed)

  string-same : EndsBefore (length w) (string_at (quoted false (w ++ r)) (w ++ r))
      → string_at (quoted false (w ++ s)) (w ++ s) ≡ string_at (quoted false (w ++ r)) (w ++ r)
  string-same h =
      ap (λ q. string_at q (w ++ s))
      (quoted-same false w r s (string-before (length w) (quoted false (w ++ r)) (w ++ r) h))
      ∙ by (quoted false (w ++ r)) h
    where
      by : (q : Quoted) → EndsBefore (length w) (string_at q (w ++ r)) → string_at q (w ++ s) ≡ string_at q (w ++ r)
      by (closes m) inside =
          ap (λ (l : List ℕ). token (record { kind = String; text = l; more = m + 1 }))
          (front_bytes w r s m (omega (arith, inside)))
      by breaks inside = refl
      by runs_on inside = refl

  tag-same : (b : ℕ) → EndsBefore (length w) (tag_at (prefix_len is_tag_byte (w ++ r)) b (w ++ r))
      → tag_at (prefix_len is_tag_byte (w ++ s)) b (w ++ s) ≡ tag_at (prefix_len is_tag_byte (w ++ r)) b (w ++ r)
  tag-same b h = by (nat_eq (prefix_len is_tag_byte (w ++ r)) 0) refl h
    where
      by : (v : Bool) → nat_eq (prefix_len is_tag_byte (w ++ r)) 0 ≡ v
          → EndsBefore (length w) (cond v (cut_short (w ++ r)) (token (record {
            kind = Tag;
            text = b ∷ take (prefix_len is_tag_byte (w ++ r)) (w ++ r);
            more = prefix_len is_tag_byte (w ++ r);
          })))
          → tag_at (prefix_len is_tag_byte (w ++ s)) b (w ++ s) ≡ tag_at (prefix_len is_tag_byte (w ++ r)) b (w ++ r)
      by true none inside = short-never (length w) (w ++ r) _ inside
      by false some inside =
          let m = prefix_len is_tag_byte (w ++ r) in
          let long : prefix_len is_tag_byte (w ++ s) ≡ m = front_len is_tag_byte w r s inside in
          let text : take m (w ++ s) ≡ take m (w ++ r) = front_bytes w r s m (omega (arith, inside)) in
          ap (λ j. tag_at j b (w ++ s)) long
          ∙ ap (λ v. cond v (cut_short (w ++ s)) (token (record { kind = Tag; text = b ∷ take m (w ++ s); more = m })))
          some
          ∙ ap (λ (l : List ℕ). token (record { kind = Tag; text = b ∷ l; more = m })) text
          ∙ ap (λ v. cond v (cut_short (w ++ r)) (token (record { kind = Tag; text = b ∷ take m (w ++ r); more = m })))
          (sym some)

  carets-same : (b : ℕ) → EndsBefore (length w) (carets_at b (w ++ r)) → carets_at b (w ++ s) ≡ carets_at b (w ++ r)
  carets-same b h = by (nat_eq (get_or (w ++ r) 0 0) 94) refl h
    where
      by : (v : Bool) → nat_eq (get_or (w ++ r) 0 0) 94 ≡ v
          → EndsBefore (length w)
          (cond v (token (record { kind = Carets; text = b ∷ take 1 (w ++ r); more = 1 })) (cut_short (w ++ r)))
          → carets_at b (w ++ s) ≡ carets_at b (w ++ r)
      by false one inside = short-never (length w) (w ++ r) _ inside
      by true two inside =
          let byte : get_or (w ++ s) 0 0 ≡ get_or (w ++ r) 0 0 = front_byte w r s 0 (omega (arith, inside)) in
          let text : take 1 (w ++ s) ≡ take 1 (w ++ r) = front_bytes w r s 1 (omega (arith, inside)) in
          ap (λ c. cond (nat_eq c 94) (token (record { kind = Carets; text = b ∷ take 1 (w ++ s); more = 1 }))
          (cut_short (w ++ s)))
          byte
          ∙ ap
          (λ v. cond v (token (record { kind = Carets; text = b ∷ take 1 (w ++ s); more = 1 })) (cut_short (w ++ s)))
          two
          ∙ ap (λ (l : List ℕ). token (record { kind = Carets; text = b ∷ l; more = 1 })) text
          ∙ ap
          (λ v. cond v (token (record { kind = Carets; text = b ∷ take 1 (w ++ r); more = 1 })) (cut_short (w ++ r)))
          (sym two)

  comment-same : EndsBefore (length w) (gap (prefix_len is_comment_byte (w ++ r)))
      → gap (prefix_len is_comment_byte (w ++ s)) ≡ gap (prefix_len is_comment_byte (w ++ r))
  comment-same h = ap gap (front_len is_comment_byte w r s h)

  name-same : (b : ℕ) → EndsBefore (length w) (name_at (prefix_len is_name_byte (w ++ r)) b (w ++ r))
      → name_at (prefix_len is_name_byte (w ++ s)) b (w ++ s) ≡ name_at (prefix_len is_name_byte (w ++ r)) b (w ++ r)
  name-same b h =
      let m = prefix_len is_name_byte (w ++ r) in
      let text : take m (w ++ s) ≡ take m (w ++ r) = front_bytes w r s m (omega (arith, h)) in
      ap (λ j. name_at j b (w ++ s)) (front_len is_name_byte w r s h)
      ∙ ap (λ (l : List ℕ). token (record { kind = Name; text = b ∷ l; more = m })) text

  cut-same : (b : ℕ) → EndsBefore (length w) (cut_at b (w ++ r)) → cut_at b (w ++ s) ≡ cut_at b (w ++ r)
  cut-same b =
      same_by (length w) (is_whitespace b) (gap 0) _ (gap 0) _ (λ is h. refl)
      (same_by (length w) (nat_eq b 35) (gap (prefix_len is_comment_byte (w ++ r))) _
      (gap (prefix_len is_comment_byte (w ++ s))) _ (λ is h. comment-same h)
      (same_by (length w) (nat_eq b 40) (sign_at OpenBracket b) _ (sign_at OpenBracket b) _ (λ is h. refl)
      (same_by (length w) (nat_eq b 41) (sign_at CloseBracket b) _ (sign_at CloseBracket b) _ (λ is h. refl)
      (same_by (length w) (nat_eq b 61) (sign_at Equals b) _ (sign_at Equals b) _ (λ is h. refl)
      (same_by (length w) (nat_eq b 60) (iri_at (prefix_len is_iri_byte (w ++ r)) (w ++ r)) _
      (iri_at (prefix_len is_iri_byte (w ++ s)) (w ++ s)) _ (λ is h. iri-same h)
      (same_by (length w) (nat_eq b 34) (string_at (quoted false (w ++ r)) (w ++ r)) _
      (string_at (quoted false (w ++ s)) (w ++ s)) _ (λ is h. string-same h)
      (same_by (length w) (nat_eq b 64) (tag_at (prefix_len is_tag_byte (w ++ r)) b (w ++ r)) _
      (tag_at (prefix_len is_tag_byte (w ++ s)) b (w ++ s)) _ (λ is h. tag-same b h)
      (same_by (length w) (nat_eq b 94) (carets_at b (w ++ r)) _ (carets_at b (w ++ s)) _ (λ is h. carets-same b h)
      (same_by (length w) (is_name_byte b) (name_at (prefix_len is_name_byte (w ++ r)) b (w ++ r)) wrong
      (name_at (prefix_len is_name_byte (w ++ s)) b (w ++ s)) wrong (λ is h. name-same b h) (λ h. refl))))))))))

-- ---- the pieces up to the end of the document

-- at the bracket with which the document ends nothing is looked at behind it
last-same : (place line b : ℕ) (w r s : List ℕ) (cut : Cut) → cut_at b (w ++ r) ≡ cut → ClosesAlone b cut
    → (m : Met) (x : Lexeme) → cut ≡ token x → is_last m (token_of place line x) ≡ true → cut_at b (w ++ s) ≡ cut
last-same place line b w r s cut is alone m x here last =
    let closing = subst (ClosesAlone b) here alone (last_closes m (token_of place line x) last) in
    ap (λ c. cut_at c (w ++ s)) closing.0 ∙ ap (λ c. cut_at c (w ++ r)) (sym closing.0) ∙ is

module _ (bad other : Option ℕ) (place line b : ℕ) (w r s : List ℕ) where
  -- the rests of the two texts
  abbrev first : ℕ → List Piece
  first k = pieces_from bad k (place + 1) (line_behind b line) (w ++ r)

  abbrev second : ℕ → List Piece
  second k = pieces_from other k (place + 1) (line_behind b line) (w ++ s)

  abbrev RestsAgree : Type 0
  RestsAgree = (k : ℕ) (m : Met) (d : DocumentTokens) → EndsAs m (first k) d → d.place_behind ≡ (place + 1) + length w
      → EndsAs m (second k) d

  -- what was skipped lies before the end
  skipped : (k : ℕ) (m : Met) (d : DocumentTokens) → EndsAs m (first k) d → d.place_behind ≡ place + suc (length w)
      → k < length w
  skipped k m d h end =
      let c = closes_in bad k (place + 1) (line_behind b line) (w ++ r) m d h in omega (arith, c.end, c.later, end)

  agree_at : (cut : Cut) → cut_at b (w ++ r) ≡ cut → RestsAgree → (m : Met) (d : DocumentTokens)
      → EndsAs m (pieces_with bad cut place line first) d → d.place_behind ≡ place + suc (length w)
      → EndsAs m (pieces_with other (cut_at b (w ++ s)) place line second) d
  agree_at wrong is rests m d h end = absurd (no_fault m _ [] d h)
  agree_at unended is rests m d h end = absurd (no_fault m _ [] d h)
  agree_at (gap more) is rests m d h end =
      let same : cut_at b (w ++ s) ≡ gap more =
      cut-same w r s b (subst (EndsBefore (length w)) (sym is) (skipped more m d h end)) ∙ is in
      subst (λ (c : Cut). EndsAs m (pieces_with other c place line second) d) (sym same)
      (rests more m d h (omega (arith, end)))
  agree_at (token x) is rests m d h end = by (is_last m (token_of place line x)) refl h
    where
      by : (v : Bool) → is_last m (token_of place line x) ≡ v
          → ((stop : ℕ)
          → cond v (Ok (record { tokens = token_of place line x ∷ []; place_behind = place + (x.more + 1) }))
          (with_token (token_of place line x) (document_front stop (met_after x.kind x.text m) (first x.more)))
          ≡ Ok d)
          → EndsAs m (pieces_with other (cut_at b (w ++ s)) place line second) d
      by true last ends =
          let same : cut_at b (w ++ s) ≡ token x =
          last-same place line b w r s (token x) is (subst (ClosesAlone b) is (cut-alone b (w ++ r))) m x refl last in
          subst (λ (c : Cut). EndsAs m (pieces_with other c place line second) d) (sym same)
          (λ stop. ap
          (λ v. cond v (Ok (record { tokens = token_of place line x ∷ []; place_behind = place + (x.more + 1) }))
          (with_token (token_of place line x) (document_front stop (met_after x.kind x.text m) (second x.more))))
          last
          ∙ ends stop)
      by false go_on ends =
          let t : PlainToken = token_of place line x in
          let n : Met = met_after x.kind x.text m in
          let behind : EndsAs n (first x.more) (less d) =
          λ stop. less_ok t (document_front stop n (first x.more)) d (ends stop) in
          let same : cut_at b (w ++ s) ≡ token x =
          cut-same w r s b (subst (EndsBefore (length w)) (sym is) (skipped x.more n (less d) behind end)) ∙ is in
          let more = rests x.more n (less d) behind (omega (arith, end)) in
          subst (λ (c : Cut). EndsAs m (pieces_with other c place line second) d) (sym same)
          (λ stop.
          ap (λ v. cond v (Ok (record { tokens = t ∷ []; place_behind = place + (x.more + 1) }))
          (with_token t (document_front stop n (second x.more))))
          go_on
          ∙ ap (with_token t) (more stop)
          ∙ ok_more t (document_front 0 n (first x.more)) d (ends 0))

-- where a document ends behind the bytes w, what stands behind them is not looked at
same_ending : (bad other : Option ℕ) (k place line : ℕ) (w r s : List ℕ) (m : Met) (d : DocumentTokens)
    → EndsAs m (pieces_from bad k place line (w ++ r)) d → d.place_behind ≡ place + length w
    → EndsAs m (pieces_from other k place line (w ++ s)) d
same_ending bad other k place line [] r s m d h end =
    let c = closes_in bad k place line r m d h in absurd (omega (arith, c.end, end))
same_ending bad other (suc k) place line (b ∷ w) r s m d h end =
    same_ending bad other k (place + 1) (line_behind b line) w r s m d h (omega (arith, end))
same_ending bad other zero place line (b ∷ w) r s m d h end =
    agree_at bad other place line b w r s (cut_at b (w ++ r)) refl
    (λ k n e g there. same_ending bad other k (place + 1) (line_behind b line) w r s n e g there) m d h end

-- ---- UTF-8

front_utf8 : (text : List ℕ) (n : ℕ) → IsUtf8 (take (valid_len_up_to text n) text)
front_utf8 text zero = IsUtf8-nil
front_utf8 text (suc n) = by (is_utf8 (take (suc n) text)) refl (front_utf8 text n)
  where
    by : (v : Bool) → is_utf8 (take (suc n) text) ≡ v → IsUtf8 (take (valid_len_up_to text n) text)
        → IsUtf8 (take (cond v (suc n) (valid_len_up_to text n)) text)
    by true is others = IsUtf8-from_is_utf8 (take (suc n) text) is
    by false is others = others

longest_front : (text : List ℕ) (n m : ℕ) → IsUtf8 (take n text) → n ≤ m → n ≤ valid_len_up_to text m
longest_front text n zero utf8 less_than = less_than
longest_front text n (suc m) utf8 less_than = by (is_utf8 (take (suc m) text)) refl (longest_front text n m utf8)
  where
    by : (v : Bool) → is_utf8 (take (suc m) text) ≡ v → (n ≤ m → n ≤ valid_len_up_to text m)
        → n ≤ cond v (suc m) (valid_len_up_to text m)
    by true is others = less_than
    by false is others = others (elim (nat_eq n (suc m)) as (λ v. nat_eq n (suc m) ≡ v → n ≤ m) [
      | true ↦ λ e.
          let same : n ≡ suc m = same_number n (suc m) e in
          let clash : true ≡ false =
          sym (is_utf8-from_IsUtf8 (take (suc m) text) (subst (λ k. IsUtf8 (take k text)) same utf8)) ∙ is in
          absurd (cc clash)
      | false ↦ λ e. grind (arith, less_than, e)
    ] refl)

utf8_front-utf8 : (text : List ℕ) → IsUtf8 (utf8_front text)
unfolding utf8_valid_len
utf8_front-utf8 text = front_utf8 text (length text)

front_all : (w more : List ℕ) → take (length w) (w ++ more) ≡ w
front_all [] more = refl
front_all (b ∷ w) more = ap (λ (l : List ℕ). b ∷ l) (front_all w more)

valid_len-front : (w more : List ℕ) → IsUtf8 w → length w ≤ utf8_valid_len (w ++ more)
unfolding utf8_valid_len
valid_len-front w more utf8 =
    longest_front (w ++ more) (length w) (length (w ++ more)) (subst IsUtf8 (sym (front_all w more)) utf8)
    (omega (arith, length-append w more))

take_further : (n : ℕ) (w more : List ℕ) → length w ≤ n → take n (w ++ more) ≡ w ++ take (n - length w) more
take_further n [] more far = let same : n ≡ n - 0 = omega arith in ap (λ k. take k more) same
take_further zero (b ∷ w) more far = absurd (omega (arith, far))
take_further (suc n) (b ∷ w) more far =
    let same : n - length w ≡ suc n - suc (length w) = omega arith in
    ap (λ (l : List ℕ). b ∷ l) (take_further n w more (omega (arith, far)) ∙ ap (λ k. w ++ take k more) same)

-- the text in front begins with a byte order mark, or it does not: a closing bracket is no part of one
same_mark : (w r s : List ℕ) (n : ℕ) → length w ≡ suc n → get_or (w ++ r) n 0 ≡ 41
    → mark_len (w ++ r) ≡ mark_len (w ++ s)
same_mark [] r s n long closing = cc
same_mark (a ∷ []) r s zero long closing = ap (λ b. mark_len (b ∷ r)) closing ∙ ap (λ b. mark_len (b ∷ s)) (sym closing)
same_mark (a ∷ []) r s (suc n) long closing = absurd (omega (arith, long))
same_mark (a ∷ (b ∷ [])) r s zero long closing = absurd (omega (arith, long))
same_mark (a ∷ (b ∷ [])) r s (suc zero) long closing =
    ap (λ c. mark_len (a ∷ (c ∷ r))) closing ∙ ap (λ c. mark_len (a ∷ (c ∷ s))) (sym closing)
same_mark (a ∷ (b ∷ [])) r s (suc (suc n)) long closing = absurd (omega (arith, long))
same_mark (a ∷ (b ∷ (c ∷ w))) r s n long closing = refl

module _ (text more : List ℕ) (r : DocumentTokens) (h : EndsAs nothing_met (pieces text) r) where
  front_closes : ClosesIn (mark_len (utf8_front text)) 0 (utf8_front text) r.place_behind
  front_closes = closes_in (bad_byte_line text) (mark_len (utf8_front text)) 0 1 (utf8_front text) nothing_met r h

  front_length : length (utf8_front text) ≡ utf8_valid_len text
  front_length = length-take-le (utf8_valid_len text) text (utf8_valid_len_le text)

  document_length : length (take r.place_behind text) ≡ r.place_behind
  document_length = length-take-le r.place_behind text
      (omega (arith, front_closes.end, front_closes.within, front_length, utf8_valid_len_le text))

  document_front_is : take r.place_behind (utf8_front text) ≡ take r.place_behind text
  document_front_is = take_of_take r.place_behind (utf8_valid_len text) text
      (omega (arith, front_closes.end, front_closes.within, front_length))

  document_utf8 : IsUtf8 (take r.place_behind text)
  document_utf8 =
      let there : front_closes.before + 1 ≡ r.place_behind = omega (arith, front_closes.end) in
      subst IsUtf8 (ap (λ n. take n (utf8_front text)) there ∙ document_front_is)
      (IsUtf8-take (utf8_front text) (front_closes.before + 1) (utf8_front-utf8 text)
      (IsCharBoundary-after_ascii (utf8_front text) front_closes.before (utf8_front-utf8 text) front_closes.within
      (omega (arith, front_closes.bracket))))

  front_is : utf8_front text ≡ take r.place_behind text ++ drop r.place_behind (utf8_front text)
  front_is =
      sym (take-append-drop r.place_behind (utf8_front text))
      ∙ ap (λ (l : List ℕ). l ++ drop r.place_behind (utf8_front text)) document_front_is

  longer_is : (w : List ℕ) → IsUtf8 w → utf8_front (w ++ more) ≡ w ++ take (utf8_valid_len (w ++ more) - length w) more
  longer_is w utf8 = take_further (utf8_valid_len (w ++ more)) w more (valid_len-front w more utf8)

  longer_ends : EndsAs nothing_met (pieces (take r.place_behind text ++ more)) r
  longer_ends =
      let w = take r.place_behind text in
      let before = drop r.place_behind (utf8_front text) in
      let behind = take (utf8_valid_len (w ++ more) - length w) more in
      let bad = bad_byte_line text in
      let other = bad_byte_line (w ++ more) in
      let first : EndsAs nothing_met (front_pieces bad (w ++ before)) r =
      subst (λ (l : List ℕ). EndsAs nothing_met (front_pieces bad l) r) front_is h in
      let second = same_ending bad other (mark_len (w ++ before)) 0 1 w before behind nothing_met r first
      (omega (arith, document_length)) in
      let closing : get_or (w ++ before) front_closes.before 0 ≡ 41 =
      ap (λ (l : List ℕ). get_or l front_closes.before 0) (sym front_is) ∙ front_closes.bracket in
      let marks_same =
      same_mark w before behind front_closes.before (omega (arith, document_length, front_closes.end)) closing in
      let third = subst (λ k. EndsAs nothing_met (pieces_from other k 0 1 (w ++ behind)) r) marks_same second in
      subst (λ (l : List ℕ). EndsAs nothing_met (front_pieces other l) r) (sym (longer_is w document_utf8)) third

-- the text up to the end of its document, with another one behind it, has the same document
pub texts_behind : (text more : List ℕ) (r : DocumentTokens) → EndsAs nothing_met (pieces text) r
    → EndsAs nothing_met (pieces (take r.place_behind text ++ more)) r
texts_behind text more r h = longer_ends text more r h
