-- The tokens of phrases make their items, with no fault, inside a document.
use Rattle.std.proofs.Common.{◌≡◌, ℕ, ◌+◌, ◌-◌, ◌<◌, ◌≤◌, Bool, false, cond, ◌&&◌, List, [], ◌∷◌, ◌++◌, length, Some}
use Rattle.std.proofs.Common.{Result, Ok, Err, refl, ap, sym, ◌∙◌, arith, append_assoc, nat_eq, nat_lt}
use Rattle.std.proofs.lemmas.Grind.{common_steps}
use Rattle.ofn_tree.specs.declared.token.Kind.TheVariants.{OpenBracket, CloseBracket, Iri, Name}
use Rattle.ofn_tree.specs.declared.fault.TextFault.{TextFault}
use Rattle.ofn_tree.specs.declared.fault.TextFault.TheVariants.{Unbalanced, TooDeep}
use Rattle.ofn_tree.specs.Token.{PlainToken}
use Rattle.ofn_tree.specs.Lexemes.{Piece}
use Rattle.ofn_tree.specs.Items.{Mark, opening, closing, begins_with_open, mark_at, marks_from, marks, written}
use Rattle.ofn_tree.specs.Items.{written_all, nesting, nesting_all}
use Rattle.ofn_tree.specs.Faults.{fault_or, bracket_fault}
use Rattle.ofn_tree.specs.Document.{Met, DocumentTokens, is_document_name, met_after, with_token, document_front}
use Rattle.ofn_writer.specs.Canonical.{items_text}
use Rattle.text_laws.proofs.Checks.{lt_true}
use Rattle.text_laws.proofs.Phrases.{Phrase, word, iri, call, Phrases, none, more, text_of, texts_of, item_of}
use Rattle.text_laws.proofs.Phrases.{all_items, token, tokens_of, all_tokens, lines_items, lines_tokens}
use Rattle.text_laws.proofs.Cuts.{wholes, wholes_append}

-- ---- marks

no_bracket_first : (n place : ℕ) (p : Phrase) (rest : List PlainToken)
    → begins_with_open (tokens_of n place p ++ rest) ≡ false
no_bracket_first n place (word w) rest = refl
no_bracket_first n place (iri w) rest = refl
no_bracket_first n place (call w ps) rest = refl

no_bracket_of : (n place : ℕ) (ps : Phrases) (rest : List PlainToken) → begins_with_open rest ≡ false
    → begins_with_open (all_tokens n place ps ++ rest) ≡ false
no_bracket_of n place none rest end = end
no_bracket_of n place (more p ps) rest end =
    let others : List PlainToken = all_tokens n (place + length (text_of p) + 1) ps in
    ap begins_with_open (append_assoc (tokens_of n place p) others rest) ∙ no_bracket_first n place p (others ++ rest)

mutual
  pub marks_phrase : (n place : ℕ) (p : Phrase) (rest : List PlainToken) → begins_with_open rest ≡ false
      → marks (tokens_of n place p ++ rest) ≡ written (item_of n p) ++ marks rest
  marks_phrase n place (word w) rest end = ap (λ v. mark_at v (token Name w place n) ∷ marks_from (cond v 1 0) rest) end
  marks_phrase n place (iri w) rest end = refl
  marks_phrase n place (call w ps) rest end =
      let p2 : ℕ = place + length w + 1 in
      let close : PlainToken =
      token CloseBracket (41 ∷ []) (place + length w + 1 + length (items_text (texts_of ps))) n in
      ap (λ (l : List Mark). opening (Some w) n ∷ l)
      (ap marks (append_assoc (all_tokens n p2 ps) (close ∷ []) rest)
      ∙ marks_phrases n p2 ps (close ∷ rest) refl
      ∙ sym (append_assoc (written_all (all_items n ps)) (closing ∷ []) (marks rest)))

  pub marks_phrases : (n place : ℕ) (ps : Phrases) (rest : List PlainToken) → begins_with_open rest ≡ false
      → marks (all_tokens n place ps ++ rest) ≡ written_all (all_items n ps) ++ marks rest
  marks_phrases n place none rest end = refl
  marks_phrases n place (more p ps) rest end =
      let p1 : ℕ = place + length (text_of p) + 1 in
      let others : List PlainToken = all_tokens n p1 ps in
      ap marks (append_assoc (tokens_of n place p) others rest)
      ∙ marks_phrase n place p (others ++ rest) (no_bracket_of n p1 ps rest end)
      ∙ ap (λ (l : List Mark). written (item_of n p) ++ l) (marks_phrases n p1 ps rest end)
      ∙ sym (append_assoc (written (item_of n p)) (written_all (all_items n ps)) (marks rest))

no_bracket_on_lines : (n place : ℕ) (ps : List Phrase) (rest : List PlainToken) → begins_with_open rest ≡ false
    → begins_with_open (lines_tokens n place ps ++ rest) ≡ false
no_bracket_on_lines n place [] rest end = end
no_bracket_on_lines n place (p ∷ ps) rest end =
    let others : List PlainToken = lines_tokens (n + 1) (place + length (text_of p) + 1) ps in
    ap begins_with_open (append_assoc (tokens_of n place p) others rest) ∙ no_bracket_first n place p (others ++ rest)

pub marks_lines : (n place : ℕ) (ps : List Phrase) (rest : List PlainToken) → begins_with_open rest ≡ false
    → marks (lines_tokens n place ps ++ rest) ≡ written_all (lines_items n ps) ++ marks rest
marks_lines n place [] rest end = refl
marks_lines n place (p ∷ ps) rest end =
    let p1 : ℕ = place + length (text_of p) + 1 in
    let others : List PlainToken = lines_tokens (n + 1) p1 ps in
    ap marks (append_assoc (tokens_of n place p) others rest)
    ∙ marks_phrase n place p (others ++ rest) (no_bracket_on_lines (n + 1) p1 ps rest end)
    ∙ ap (λ (l : List Mark). written (item_of n p) ++ l) (marks_lines (n + 1) p1 ps rest end)
    ∙ sym (append_assoc (written (item_of n p)) (written_all (lines_items (n + 1) ps)) (marks rest))

-- ---- faults

not_zero : (d : ℕ) → nat_eq (d + 1) 0 ≡ false
not_zero d = grind (arith, common_steps)

enters : (end d : ℕ) (t : PlainToken) (ts : List PlainToken) → d < 64
    → fault_or (cond (nat_lt d 64) (Ok (d + 1)) (Err (TooDeep t.line))) (λ e. bracket_fault end e ts)
    ≡ bracket_fault end (d + 1) ts
enters end d t ts room =
    ap (λ v. fault_or (cond v (Ok (d + 1)) (Err (TooDeep t.line))) (λ e. bracket_fault end e ts)) (lt_true d 64 room)

leaves : (end d : ℕ) (t : PlainToken) (ts : List PlainToken)
    → fault_or (cond (nat_eq (d + 1) 0) (Err (Unbalanced t.line)) (Ok (d + 1 - 1))) (λ e. bracket_fault end e ts)
    ≡ bracket_fault end d ts
leaves end d t ts =
    let less : d + 1 - 1 ≡ d = omega arith in
    ap (λ v. fault_or (cond v (Err (Unbalanced t.line)) (Ok (d + 1 - 1))) (λ e. bracket_fault end e ts)) (not_zero d)
    ∙ ap (λ e. bracket_fault end e ts) less

mutual
  pub fault_phrase : (end d n place : ℕ) (p : Phrase) (rest : List PlainToken) → nesting (item_of n p) + d ≤ 64
      → bracket_fault end d (tokens_of n place p ++ rest) ≡ bracket_fault end d rest
  fault_phrase end d n place (word w) rest deep = refl
  fault_phrase end d n place (iri w) rest deep = refl
  fault_phrase end d n place (call w ps) rest deep =
      let p1 : ℕ = place + length w in
      let p2 : ℕ = place + length w + 1 in
      let close : PlainToken =
      token CloseBracket (41 ∷ []) (place + length w + 1 + length (items_text (texts_of ps))) n in
      let room : d < 64 = omega arith in
      let inner : nesting_all (all_items n ps) + (d + 1) ≤ 64 = omega arith in
      enters end d (token OpenBracket (40 ∷ []) p1 n) ((all_tokens n p2 ps ++ close ∷ []) ++ rest) room
      ∙ ap (bracket_fault end (d + 1)) (append_assoc (all_tokens n p2 ps) (close ∷ []) rest)
      ∙ fault_phrases end (d + 1) n p2 ps (close ∷ rest) inner
      ∙ leaves end d close rest

  pub fault_phrases : (end d n place : ℕ) (ps : Phrases) (rest : List PlainToken)
      → nesting_all (all_items n ps) + d ≤ 64
      → bracket_fault end d (all_tokens n place ps ++ rest) ≡ bracket_fault end d rest
  fault_phrases end d n place none rest deep = refl
  fault_phrases end d n place (more p ps) rest deep =
      let p1 : ℕ = place + length (text_of p) + 1 in
      let first : nesting (item_of n p) + d ≤ 64 = omega arith in
      let others : nesting_all (all_items n ps) + d ≤ 64 = omega arith in
      ap (bracket_fault end d) (append_assoc (tokens_of n place p) (all_tokens n p1 ps) rest)
      ∙ fault_phrase end d n place p (all_tokens n p1 ps ++ rest) first
      ∙ fault_phrases end d n p1 ps rest others

pub fault_lines : (end d n place : ℕ) (ps : List Phrase) (rest : List PlainToken)
    → nesting_all (lines_items n ps) + d ≤ 64
    → bracket_fault end d (lines_tokens n place ps ++ rest) ≡ bracket_fault end d rest
fault_lines end d n place [] rest deep = refl
fault_lines end d n place (p ∷ ps) rest deep =
    let p1 : ℕ = place + length (text_of p) + 1 in
    let first : nesting (item_of n p) + d ≤ 64 = omega arith in
    let others : nesting_all (lines_items (n + 1) ps) + d ≤ 64 = omega arith in
    ap (bracket_fault end d) (append_assoc (tokens_of n place p) (lines_tokens (n + 1) p1 ps) rest)
    ∙ fault_phrase end d n place p (lines_tokens (n + 1) p1 ps ++ rest) first
    ∙ fault_lines end d (n + 1) p1 ps rest others

-- ---- inside a group

-- inside a group, that of a document or another, with so many brackets open, and the last tokens those of m
abbrev pub inside : Bool → ℕ → Met → Met
inside doc d m = record { depth = d; document = doc; latest = m.latest }

abbrev pub with_tokens : List PlainToken → Result DocumentTokens TextFault → Result DocumentTokens TextFault
with_tokens [] r = r
with_tokens (t ∷ ts) r = with_token t (with_tokens ts r)

with_both : (ts us : List PlainToken) (r : Result DocumentTokens TextFault)
    → with_tokens ts (with_tokens us r) ≡ with_tokens (ts ++ us) r
with_both [] us r = refl
with_both (t ∷ ts) us r = ap (with_token t) (with_both ts us r)

-- the tokens do not end the document
pub record Passes (doc : Bool) (end d : ℕ) (before : Met) (ts : List PlainToken) (e : ℕ) : Type 0 where
  pub latest : Met
  pub goes : (ps : List Piece)
      → document_front end (inside doc d before) (wholes ts ++ ps)
      ≡ with_tokens ts (document_front end (inside doc e latest) ps)

passes_nothing : (doc : Bool) (end d : ℕ) (before : Met) → Passes doc end d before [] d
passes_nothing doc end d before = record { latest = before; goes = λ ps. refl }

passes_both : (doc : Bool) (end d : ℕ) (before : Met) (ts : List PlainToken) (e : ℕ) (us : List PlainToken) (f : ℕ)
    → Passes doc end d before ts e → ((l : Met) → Passes doc end e l us f) → Passes doc end d before (ts ++ us) f
passes_both doc end d before ts e us f first second =
    let then : Passes doc end e first.latest us f = second first.latest in
    record {
      latest = then.latest;
      goes = λ ps.
          ap (document_front end (inside doc d before))
          (ap (λ l. l ++ ps) (wholes_append ts us) ∙ append_assoc (wholes ts) (wholes us) ps)
          ∙ first.goes (wholes us ++ ps)
          ∙ ap (with_tokens ts) (then.goes ps)
          ∙ with_both ts us (document_front end (inside doc f then.latest) ps);
    }

above_zero : (d : ℕ) → 1 ≤ d → nat_eq d 0 ≡ false
above_zero d h = grind (arith, common_steps, h)

above_one : (d : ℕ) → 1 ≤ d → nat_eq (d + 1) 1 ≡ false
above_one d h = grind (arith, common_steps, h)

passes_name : (doc : Bool) (end d : ℕ) (before : Met) (w : List ℕ) (place n : ℕ)
    → Passes doc end d before (token Name w place n ∷ []) d
passes_name doc end d before w place n = record { latest = met_after Name w (inside doc d before); goes = λ ps. refl }

passes_iri : (doc : Bool) (end d : ℕ) (before : Met) (w : List ℕ) (place n : ℕ)
    → Passes doc end d before (token Iri w place n ∷ []) d
passes_iri doc end d before w place n = record { latest = met_after Iri w (inside doc d before); goes = λ ps. refl }

passes_open : (doc : Bool) (end d : ℕ) (before : Met) (place n : ℕ) → 1 ≤ d
    → Passes doc end d before (token OpenBracket (40 ∷ []) place n ∷ []) (d + 1)
passes_open doc end d before place n some = record {
  latest = met_after OpenBracket (40 ∷ []) (inside doc d before);
  goes =
      λ ps. ap (λ v. with_token (token OpenBracket (40 ∷ []) place n)
      (document_front end
      (record {
        depth = d + 1;
        document = cond v (is_document_name before.latest) doc;
        latest = (met_after OpenBracket (40 ∷ []) (inside doc d before)).latest;
      })
      ps))
      (above_zero d some);
}

passes_close : (doc : Bool) (end d : ℕ) (before : Met) (place n : ℕ) → 1 ≤ d
    → Passes doc end (d + 1) before (token CloseBracket (41 ∷ []) place n ∷ []) d
passes_close doc end d before place n some =
    let t : PlainToken = token CloseBracket (41 ∷ []) place n in
    let less : d + 1 - 1 ≡ d = omega arith in
    let behind : Met = met_after CloseBracket (41 ∷ []) (inside doc (d + 1) before) in
    record {
      latest = behind;
      goes = λ ps.
          ap (λ v. cond (v && doc) (Ok (record { tokens = t ∷ []; place_behind = place + 1 }))
          (with_token t (document_front end (inside doc (d + 1 - 1) behind) ps)))
          (above_one d some)
          ∙ ap (λ e. with_token t (document_front end (inside doc e behind) ps)) less;
    }

mutual
  pub passes_phrase : (doc : Bool) (end d : ℕ) (before : Met) (n place : ℕ) (p : Phrase) → 1 ≤ d
      → Passes doc end d before (tokens_of n place p) d
  passes_phrase doc end d before n place (word w) some = passes_name doc end d before w place n
  passes_phrase doc end d before n place (iri w) some = passes_iri doc end d before w place n
  passes_phrase doc end d before n place (call w ps) some =
      let p1 : ℕ = place + length w in
      let p2 : ℕ = place + length w + 1 in
      let p3 : ℕ = place + length w + 1 + length (items_text (texts_of ps)) in
      let more : 1 ≤ d + 1 = omega arith in
      passes_both doc end d before (token Name w place n ∷ []) d
      (token OpenBracket (40 ∷ []) p1 n ∷ (all_tokens n p2 ps ++ token CloseBracket (41 ∷ []) p3 n ∷ [])) d
      (passes_name doc end d before w place n)
      (λ l. passes_both doc end d l (token OpenBracket (40 ∷ []) p1 n ∷ []) (d + 1)
      (all_tokens n p2 ps ++ token CloseBracket (41 ∷ []) p3 n ∷ []) d
      (passes_open doc end d l p1 n some)
      (λ k. passes_both doc end (d + 1) k (all_tokens n p2 ps) (d + 1) (token CloseBracket (41 ∷ []) p3 n ∷ []) d
      (passes_phrases doc end (d + 1) k n p2 ps more)
      (λ j. passes_close doc end d j p3 n some)))

  pub passes_phrases : (doc : Bool) (end d : ℕ) (before : Met) (n place : ℕ) (ps : Phrases) → 1 ≤ d
      → Passes doc end d before (all_tokens n place ps) d
  passes_phrases doc end d before n place none some = passes_nothing doc end d before
  passes_phrases doc end d before n place (more p ps) some =
      let p1 : ℕ = place + length (text_of p) + 1 in
      passes_both doc end d before (tokens_of n place p) d (all_tokens n p1 ps) d
      (passes_phrase doc end d before n place p some) (λ l. passes_phrases doc end d l n p1 ps some)

pub passes_lines : (doc : Bool) (end d : ℕ) (before : Met) (n place : ℕ) (ps : List Phrase) → 1 ≤ d
    → Passes doc end d before (lines_tokens n place ps) d
passes_lines doc end d before n place [] some = passes_nothing doc end d before
passes_lines doc end d before n place (p ∷ ps) some =
    let p1 : ℕ = place + length (text_of p) + 1 in
    passes_both doc end d before (tokens_of n place p) d (lines_tokens (n + 1) p1 ps) d
    (passes_phrase doc end d before n place p some) (λ l. passes_lines doc end d l (n + 1) p1 ps some)
