-- Phrases are cut into their tokens.
use Rattle.std.proofs.Common.{◌≡◌, ℕ, suc, ◌+◌, Bool, true, false, not, cond, ◌&&◌, List, [], ◌∷◌, ◌++◌, length, get_or}
use Rattle.std.proofs.Common.{take, drop, Option, refl, ap, sym, ◌∙◌, subst, arith, append_assoc, append-nil}
use Rattle.std.proofs.Common.{length-append, nat_eq}
use Rattle.std.proofs.lemmas.Grind.{common_steps}
use Rattle.std.proofs.Math.Seq.{take-append_seam}
use Rattle.std.specs.List.{list_all, prefix_len}
use Rattle.std.proofs.lemmas.Bool.{and_parts}
use Rattle.shq_terms.proofs.Bools.{false_from_not}
use Rattle.ofn_tree.specs.declared.token.Kind.TheVariants.{OpenBracket, CloseBracket, Equals, Iri, Name}
use Rattle.ofn_tree.specs.Token.{PlainToken}
use Rattle.ofn_tree.specs.Spans.{width}
use Rattle.ofn_tree.specs.Lexemes as lexemes
use Rattle.ofn_tree.specs.Lexemes.{is_whitespace, is_iri_byte, is_name_byte, is_tag_byte, is_comment_byte, is_line_feed}
use Rattle.ofn_tree.specs.Lexemes.{line_behind, Lexeme, Cut, gap, wrong, cut_short, sign_at, string_at, quoted, tag_at}
use Rattle.ofn_tree.specs.Lexemes.{carets_at, iri_at, name_at, cut_at, Piece, whole, token_of, pieces_with, pieces_from}
use Rattle.ofn_writer.specs.Canonical.{iri_text, items_text, group_text, line}
use Rattle.text_laws.proofs.Checks.{no_more, one_further}
use Rattle.text_laws.proofs.Phrases.{Phrase, word, iri, call, Phrases, none, more, text_of, texts_of, is_name}
use Rattle.text_laws.proofs.Phrases.{can_stand, can_all_stand, token, tokens_of, all_tokens, lines_text, all_can_stand}
use Rattle.text_laws.proofs.Phrases.{lines_tokens}

-- tokens as pieces
abbrev pub wholes : List PlainToken → List Piece
wholes [] = []
wholes (t ∷ ts) = whole t (t.start + width t) ∷ wholes ts

pub wholes_append : (ts us : List PlainToken) → wholes (ts ++ us) ≡ wholes ts ++ wholes us
wholes_append [] us = refl
wholes_append (t ∷ ts) us = ap (λ l. whole t (t.start + width t) ∷ l) (wholes_append ts us)

-- a text, from a place on a line on, begins with these tokens; the rest stands at the other place
pub record Cuts (bad : Option ℕ) (place n : ℕ) (text : List ℕ) (ts : List PlainToken) (behind m : ℕ) (rest : List ℕ) :
    Type 0 where
  pub cut : pieces_from bad 0 place n text ≡ wholes ts ++ pieces_from bad 0 behind m rest

pub cuts_nothing : (bad : Option ℕ) (place n : ℕ) (text : List ℕ) → Cuts bad place n text [] place n text
cuts_nothing bad place n text = record { cut = refl }

pub cuts_both : (bad : Option ℕ) (place n : ℕ) (text : List ℕ) (ts : List PlainToken) (p m : ℕ) (mid : List ℕ)
    (us : List PlainToken) (q k : ℕ) (rest : List ℕ)
    → Cuts bad place n text ts p m mid → Cuts bad p m mid us q k rest → Cuts bad place n text (ts ++ us) q k rest
cuts_both bad place n text ts p m mid us q k rest first second = record {
  cut =
      first.cut ∙ ap (λ l. wholes ts ++ l) second.cut
      ∙ sym (append_assoc (wholes ts) (wholes us) (pieces_from bad 0 q k rest))
      ∙ ap (λ l. l ++ pieces_from bad 0 q k rest) (sym (wholes_append ts us));
}

-- ---- one byte

pub cuts_open : (bad : Option ℕ) (place n : ℕ) (rest : List ℕ)
    → Cuts bad place n (40 ∷ rest) (token OpenBracket (40 ∷ []) place n ∷ []) (place + 1) n rest
cuts_open bad place n rest = record { cut = refl }

pub cuts_close : (bad : Option ℕ) (place n : ℕ) (rest : List ℕ)
    → Cuts bad place n (41 ∷ rest) (token CloseBracket (41 ∷ []) place n ∷ []) (place + 1) n rest
cuts_close bad place n rest = record { cut = refl }

pub cuts_blank : (bad : Option ℕ) (place n : ℕ) (rest : List ℕ) → Cuts bad place n (32 ∷ rest) [] (place + 1) n rest
cuts_blank bad place n rest = record { cut = refl }

pub cuts_feed : (bad : Option ℕ) (place n : ℕ) (rest : List ℕ)
    → Cuts bad place n (10 ∷ rest) [] (place + 1) (n + 1) rest
cuts_feed bad place n rest = record { cut = refl }

-- ---- names

-- no name goes on with these
abbrev pub stops : List ℕ → Bool
stops [] = true
stops (b ∷ bs) = not (is_name_byte b)

one_more : (n m : ℕ) → n ≡ m → 1 + n ≡ suc m
one_more n m same = omega arith

-- the longest front of bytes that pass is those before one that fails
front : (p : ℕ → Bool) (bs : List ℕ) (b : ℕ) (rest : List ℕ) → list_all p bs ≡ true → p b ≡ false
    → prefix_len p (bs ++ b ∷ rest) ≡ length bs
front p [] b rest all fails = ap (λ v. cond v (1 + prefix_len p rest) 0) fails
front p (c ∷ bs) b rest all fails =
    ap (λ v. cond v (1 + prefix_len p (bs ++ b ∷ rest)) 0) (and_parts (p c) (list_all p bs) all).0
    ∙ one_more (prefix_len p (bs ++ b ∷ rest)) (length bs)
    (front p bs b rest (and_parts (p c) (list_all p bs) all).1 fails)

-- bytes that are no line feeds are gone over
gone : (p : ℕ → Bool) → ((b : ℕ) → p b ≡ true → is_line_feed b ≡ false)
    → (bad : Option ℕ) (place n : ℕ) (bs rest : List ℕ) → list_all p bs ≡ true
    → pieces_from bad (length bs) place n (bs ++ rest) ≡ pieces_from bad 0 (place + length bs) n rest
gone p plain bad place n [] rest all = ap (λ k. pieces_from bad 0 k n rest) (no_more place)
gone p plain bad place n (c ∷ bs) rest all =
    ap (λ v. pieces_from bad (length bs) (place + 1) (cond v (n + 1) n) (bs ++ rest))
    (plain c (and_parts (p c) (list_all p bs) all).0)
    ∙ gone p plain bad (place + 1) n bs rest (and_parts (p c) (list_all p bs) all).1
    ∙ ap (λ k. pieces_from bad 0 k n rest) (one_further place (length bs))

name_no_feed : (b : ℕ) → is_name_byte b ≡ true → is_line_feed b ≡ false
name_no_feed b h = grind (arith, common_steps, h)

iri_no_feed : (b : ℕ) → is_iri_byte b ≡ true → is_line_feed b ≡ false
iri_no_feed b h = grind (arith, common_steps, h)

name_no_space : (b : ℕ) → is_name_byte b ≡ true → is_whitespace b ≡ false
name_no_space b h = grind (arith, common_steps, h)

name_other : (b k : ℕ) → is_name_byte b ≡ true → is_name_byte k ≡ false → nat_eq b k ≡ false
name_other b k h other = by (nat_eq b k) refl
  where
    by : (v : Bool) → nat_eq b k ≡ v → v ≡ false
    by false is = refl
    by true is =
        let same : b ≡ k = grind (arith, common_steps, is) in
        let clash : true ≡ false = sym h ∙ ap is_name_byte same ∙ other in
        cc

name_begins : (b : ℕ) (bs : List ℕ) → is_name_byte b ≡ true → cut_at b bs ≡ name_at (prefix_len is_name_byte bs) b bs
name_begins b bs h =
    λ i.
    cond (name_no_space b h i) (gap 0)
    (cond (name_other b 35 h refl i) (gap (prefix_len is_comment_byte bs))
    (cond (name_other b 40 h refl i) (sign_at OpenBracket b)
    (cond (name_other b 41 h refl i) (sign_at CloseBracket b)
    (cond (name_other b 61 h refl i) (sign_at Equals b)
    (cond (name_other b 60 h refl i) (iri_at (prefix_len is_iri_byte bs) bs)
    (cond (name_other b 34 h refl i) (string_at (quoted false bs) bs)
    (cond (name_other b 64 h refl i) (tag_at (prefix_len is_tag_byte bs) b bs)
    (cond (name_other b 94 h refl i) (carets_at b bs)
    (cond (h i) (name_at (prefix_len is_name_byte bs) b bs) wrong)))))))))

all_front : (p : ℕ → Bool) (bs : List ℕ) → list_all p bs ≡ true → prefix_len p (bs ++ []) ≡ length bs
all_front p [] all = refl
all_front p (c ∷ bs) all =
    ap (λ v. cond v (1 + prefix_len p (bs ++ [])) 0) (and_parts (p c) (list_all p bs) all).0
    ∙ one_more (prefix_len p (bs ++ [])) (length bs) (all_front p bs (and_parts (p c) (list_all p bs) all).1)

name_length : (bs rest : List ℕ) → list_all is_name_byte bs ≡ true → stops rest ≡ true
    → prefix_len is_name_byte (bs ++ rest) ≡ length bs
name_length bs [] all end = all_front is_name_byte bs all
name_length bs (c ∷ rest) all end = front is_name_byte bs c rest all (false_from_not (is_name_byte c) end)

pub cuts_name : (bad : Option ℕ) (place n : ℕ) (w rest : List ℕ) → is_name w ≡ true → stops rest ≡ true
    → Cuts bad place n (w ++ rest) (token Name w place n ∷ []) (place + length w) n rest
cuts_name bad place n [] rest h end = cc
cuts_name bad place n (b ∷ bs) rest h end =
    let first : is_name_byte b ≡ true = (and_parts (is_name_byte b) (list_all is_name_byte bs) h).0 in
    let others : list_all is_name_byte bs ≡ true = (and_parts (is_name_byte b) (list_all is_name_byte bs) h).1 in
    let long : prefix_len is_name_byte (bs ++ rest) ≡ length bs = name_length bs rest others end in
    let here : cut_at b (bs ++ rest) ≡ name_at (length bs) b (bs ++ rest) =
    name_begins b (bs ++ rest) first ∙ ap (λ k. name_at k b (bs ++ rest)) long in
    let go : ℕ → List Piece = λ k. pieces_from bad k (place + 1) (line_behind b n) (bs ++ rest) in
    let behind : pieces_from bad (length bs) (place + 1) (line_behind b n) (bs ++ rest)
    ≡ pieces_from bad 0 (place + suc (length bs)) n rest =
    ap (λ v. pieces_from bad (length bs) (place + 1) (cond v (n + 1) n) (bs ++ rest)) (name_no_feed b first)
    ∙ gone is_name_byte name_no_feed bad (place + 1) n bs rest others
    ∙ ap (λ k. pieces_from bad 0 k n rest) (one_further place (length bs)) in
    let text : take (length bs) (bs ++ rest) ≡ bs = take-append_seam bs rest in
    let far : place + (length bs + 1) ≡ place + (0 + (suc (length bs) + 0)) = omega arith in
    record {
      cut =
          ap (λ x. pieces_with bad x place n go) here
          ∙ (λ i. whole (token Name (b ∷ text i) place n) (far i) ∷ behind i);
    }

-- ---- IRIs

byte_at : (bs : List ℕ) (b : ℕ) (rest : List ℕ) → get_or (bs ++ b ∷ rest) (length bs) 0 ≡ b
byte_at [] b rest = refl
byte_at (c ∷ bs) b rest = byte_at bs b rest

no_feeds : (bs : List ℕ) → list_all is_iri_byte bs ≡ true → list_all (λ b. not (is_line_feed b)) (bs ++ 62 ∷ []) ≡ true
no_feeds [] h = refl
no_feeds (b ∷ bs) h =
    let here : not (is_line_feed b) ≡ true =
    ap not (iri_no_feed b (and_parts (is_iri_byte b) (list_all is_iri_byte bs) h).0) in
    let others : list_all (λ b. not (is_line_feed b)) (bs ++ 62 ∷ []) ≡ true =
    no_feeds bs (and_parts (is_iri_byte b) (list_all is_iri_byte bs) h).1 in
    λ i. here i && others i

pub cuts_iri : (bad : Option ℕ) (place n : ℕ) (w rest : List ℕ) → list_all is_iri_byte w ≡ true
    → Cuts bad place n (iri_text w ++ rest) (token Iri w place n ∷ []) (place + length (iri_text w)) n rest
cuts_iri bad place n w rest h =
    let text : List ℕ = w ++ 62 ∷ [] in
    let whole_text : text ++ rest ≡ w ++ 62 ∷ rest = append_assoc w (62 ∷ []) rest in
    let long : prefix_len is_iri_byte (w ++ 62 ∷ rest) ≡ length w = front is_iri_byte w 62 rest h refl in
    let closed : iri_at (length w) (w ++ 62 ∷ rest)
    ≡ lexemes.token (record { kind = Iri; text = take (length w) (w ++ 62 ∷ rest); more = length w + 1 }) =
    ap (λ b. cond (nat_eq b 62)
    (lexemes.token (record { kind = Iri; text = take (length w) (w ++ 62 ∷ rest); more = length w + 1 }))
    (cut_short (drop (length w) (w ++ 62 ∷ rest))))
    (byte_at w 62 rest) in
    let here : cut_at 60 (text ++ rest)
    ≡ lexemes.token (record { kind = Iri; text = take (length w) (w ++ 62 ∷ rest); more = length w + 1 }) =
    ap (cut_at 60) whole_text ∙ ap (λ k. iri_at k (w ++ 62 ∷ rest)) long ∙ closed in
    let go : ℕ → List Piece = λ k. pieces_from bad k (place + 1) n (text ++ rest) in
    let count : length w + 1 ≡ length text = sym (length-append w (62 ∷ [])) in
    let behind : pieces_from bad (length w + 1) (place + 1) n (text ++ rest)
    ≡ pieces_from bad 0 (place + suc (length text)) n rest =
    ap (λ k. pieces_from bad k (place + 1) n (text ++ rest)) count
    ∙ gone (λ b. not (is_line_feed b)) (λ b. false_from_not (is_line_feed b)) bad (place + 1) n text rest (no_feeds w h)
    ∙ ap (λ k. pieces_from bad 0 k n rest) (one_further place (length text)) in
    let inner : take (length w) (w ++ 62 ∷ rest) ≡ w = take-append_seam w (62 ∷ rest) in
    let far : place + (length w + 1 + 1) ≡ place + (1 + (length w + 1)) = omega arith in
    record {
      cut = ap (λ x. pieces_with bad x place n go) here ∙ (λ i. whole (token Iri (inner i) place n) (far i) ∷ behind i);
    }

-- ---- phrases

at_text : (bad : Option ℕ) (place n : ℕ) (a b : List ℕ) (ts : List PlainToken) (p q m : ℕ) (rest : List ℕ) → a ≡ b
    → p ≡ q → Cuts bad place n a ts p m rest → Cuts bad place n b ts q m rest
at_text bad place n a b ts p q m rest same there c =
    subst (λ l. Cuts bad place n l ts q m rest) same (subst (λ k. Cuts bad place n a ts k m rest) there c)

in_brackets : (w inner rest : List ℕ) → w ++ (40 ∷ (inner ++ (41 ∷ rest))) ≡ (w ++ (40 ∷ (inner ++ 41 ∷ []))) ++ rest
in_brackets w inner rest =
    sym (append_assoc w (40 ∷ (inner ++ 41 ∷ [])) rest ∙ ap (λ l. w ++ (40 ∷ l)) (append_assoc inner (41 ∷ []) rest))

long_brackets : (w inner : List ℕ) (place : ℕ)
    → place + length w + 1 + length inner + 1 ≡ place + length (w ++ (40 ∷ (inner ++ 41 ∷ [])))
long_brackets w inner place = omega (arith, length-append w (40 ∷ (inner ++ 41 ∷ [])), length-append inner (41 ∷ []))

long_spaced : (first others : List ℕ) (place : ℕ)
    → place + length first + 1 + length others ≡ place + length (first ++ 32 ∷ others)
long_spaced first others place = omega (arith, length-append first (32 ∷ others))

mutual
  pub cuts_phrase : (bad : Option ℕ) (place n : ℕ) (p : Phrase) (rest : List ℕ) → can_stand p ≡ true → stops rest ≡ true
      → Cuts bad place n (text_of p ++ rest) (tokens_of n place p) (place + length (text_of p)) n rest
  cuts_phrase bad place n (word w) rest h end = cuts_name bad place n w rest h end
  cuts_phrase bad place n (iri w) rest h end = cuts_iri bad place n w rest h
  cuts_phrase bad place n (call w ps) rest h end =
      let inner : List ℕ = items_text (texts_of ps) in
      let p1 : ℕ = place + length w in
      let p2 : ℕ = place + length w + 1 in
      let p3 : ℕ = place + length w + 1 + length inner in
      at_text bad place n (w ++ (40 ∷ (inner ++ (41 ∷ rest)))) (group_text w (texts_of ps) ++ rest)
      (tokens_of n place (call w ps)) (p3 + 1) (place + length (group_text w (texts_of ps))) n rest
      (in_brackets w inner rest) (long_brackets w inner place)
      (cuts_both bad place n (w ++ (40 ∷ (inner ++ (41 ∷ rest)))) (token Name w place n ∷ []) p1 n
      (40 ∷ (inner ++ (41 ∷ rest)))
      (token OpenBracket (40 ∷ []) p1 n ∷ (all_tokens n p2 ps ++ token CloseBracket (41 ∷ []) p3 n ∷ [])) (p3 + 1) n
      rest
      (cuts_name bad place n w (40 ∷ (inner ++ (41 ∷ rest))) (and_parts (is_name w) (can_all_stand ps) h).0 refl)
      (cuts_both bad p1 n (40 ∷ (inner ++ (41 ∷ rest))) (token OpenBracket (40 ∷ []) p1 n ∷ []) p2 n
      (inner ++ (41 ∷ rest)) (all_tokens n p2 ps ++ token CloseBracket (41 ∷ []) p3 n ∷ []) (p3 + 1) n rest
      (cuts_open bad p1 n (inner ++ (41 ∷ rest)))
      (cuts_both bad p2 n (inner ++ (41 ∷ rest)) (all_tokens n p2 ps) p3 n (41 ∷ rest)
      (token CloseBracket (41 ∷ []) p3 n ∷ []) (p3 + 1) n rest
      (cuts_phrases bad p2 n ps (41 ∷ rest) (and_parts (is_name w) (can_all_stand ps) h).1 refl)
      (cuts_close bad p3 n rest))))

  pub cuts_phrases : (bad : Option ℕ) (place n : ℕ) (ps : Phrases) (rest : List ℕ) → can_all_stand ps ≡ true
      → stops rest ≡ true
      → Cuts bad place n (items_text (texts_of ps) ++ rest) (all_tokens n place ps)
      (place + length (items_text (texts_of ps))) n rest
  cuts_phrases bad place n none rest h end =
      at_text bad place n rest rest [] place (place + 0) n rest refl (no_more place) (cuts_nothing bad place n rest)
  cuts_phrases bad place n (more p none) rest h end =
      let text : List ℕ = text_of p in
      let alone : text ++ rest ≡ (text ++ []) ++ rest = ap (λ l. l ++ rest) (sym (append-nil text)) in
      let there : place + length text ≡ place + length (text ++ []) =
      ap (λ l. place + length l) (sym (append-nil text)) in
      at_text bad place n (text ++ rest) ((text ++ []) ++ rest) (tokens_of n place p ++ []) (place + length text)
      (place + length (text ++ [])) n rest alone there
      (cuts_both bad place n (text ++ rest) (tokens_of n place p) (place + length text) n rest [] (place + length text)
      n rest
      (cuts_phrase bad place n p rest (and_parts (can_stand p) true h).0 end)
      (cuts_nothing bad (place + length text) n rest))
  cuts_phrases bad place n (more p (more q qs)) rest h end =
      let text : List ℕ = text_of p in
      let others : List ℕ = items_text (texts_of (more q qs)) in
      let p1 : ℕ = place + length text in
      let p2 : ℕ = place + length text + 1 in
      let p3 : ℕ = place + length text + 1 + length others in
      at_text bad place n (text ++ (32 ∷ (others ++ rest))) ((text ++ 32 ∷ others) ++ rest)
      (all_tokens n place (more p (more q qs))) p3 (place + length (text ++ 32 ∷ others)) n rest
      (sym (append_assoc text (32 ∷ others) rest)) (long_spaced text others place)
      (cuts_both bad place n (text ++ (32 ∷ (others ++ rest))) (tokens_of n place p) p1 n (32 ∷ (others ++ rest))
      (all_tokens n p2 (more q qs)) p3 n rest
      (cuts_phrase bad place n p (32 ∷ (others ++ rest)) (and_parts (can_stand p) (can_all_stand (more q qs)) h).0 refl)
      (cuts_both bad p1 n (32 ∷ (others ++ rest)) [] p2 n (others ++ rest) (all_tokens n p2 (more q qs)) p3 n rest
      (cuts_blank bad p1 n (others ++ rest))
      (cuts_phrases bad p2 n (more q qs) rest (and_parts (can_stand p) (can_all_stand (more q qs)) h).1 end)))

-- ---- lines

long_line : (first others : List ℕ) (place : ℕ)
    → place + length first + 1 + length others ≡ place + length ((first ++ 10 ∷ []) ++ others)
long_line first others place = omega (arith, length-append (first ++ 10 ∷ []) others, length-append first (10 ∷ []))

pub cuts_lines : (bad : Option ℕ) (place n : ℕ) (ps : List Phrase) (rest : List ℕ) → all_can_stand ps ≡ true
    → Cuts bad place n (lines_text ps ++ rest) (lines_tokens n place ps) (place + length (lines_text ps))
    (n + length ps) rest
cuts_lines bad place n [] rest h =
    subst (λ m. Cuts bad place n rest [] (place + 0) m rest) (no_more n)
    (at_text bad place n rest rest [] place (place + 0) n rest refl (no_more place) (cuts_nothing bad place n rest))
cuts_lines bad place n (p ∷ ps) rest h =
    let text : List ℕ = text_of p in
    let others : List ℕ = lines_text ps in
    let p1 : ℕ = place + length text in
    let p2 : ℕ = place + length text + 1 in
    let p3 : ℕ = place + length text + 1 + length others in
    let m : ℕ = n + suc (length ps) in
    let whole_text : text ++ (10 ∷ (others ++ rest)) ≡ (line text ++ others) ++ rest =
    sym (append_assoc text (10 ∷ []) (others ++ rest)) ∙ sym (append_assoc (line text) others rest) in
    let below : Cuts bad p2 (n + 1) (others ++ rest) (lines_tokens (n + 1) p2 ps) p3 m rest =
    subst (λ k. Cuts bad p2 (n + 1) (others ++ rest) (lines_tokens (n + 1) p2 ps) p3 k rest) (one_further n (length ps))
    (cuts_lines bad p2 (n + 1) ps rest (and_parts (can_stand p) (all_can_stand ps) h).1) in
    at_text bad place n (text ++ (10 ∷ (others ++ rest))) ((line text ++ others) ++ rest)
    (lines_tokens n place (p ∷ ps)) p3 (place + length (line text ++ others)) m rest
    whole_text (long_line text others place)
    (cuts_both bad place n (text ++ (10 ∷ (others ++ rest))) (tokens_of n place p) p1 n (10 ∷ (others ++ rest))
    (lines_tokens (n + 1) p2 ps) p3 m rest
    (cuts_phrase bad place n p (10 ∷ (others ++ rest)) (and_parts (can_stand p) (all_can_stand ps) h).0 refl)
    (cuts_both bad p1 n (10 ∷ (others ++ rest)) [] p2 (n + 1) (others ++ rest) (lines_tokens (n + 1) p2 ps) p3 m rest
    (cuts_feed bad p1 n (others ++ rest)) below))
