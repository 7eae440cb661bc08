-- The reading of a phrase that is a text alone, and of whole texts.
use Rattle.std.proofs.Common.{◌≡◌, ℕ, ◌+◌, ◌≤◌, false, cond, Bool, List, [], ◌∷◌, ◌++◌, length, take, Some, None, Ok}
use Rattle.std.proofs.Common.{refl, ap, sym, ◌∙◌, arith, append-nil, nat_lt}
use Rattle.std.specs.Result.{result_ok}
use Rattle.std.specs.Str.{IsUtf8}
use Rattle.std.specs.Str.Lossy.{utf8_valid_len}
use Rattle.std.proofs.Math.Seq.{take-length}
use Rattle.std.proofs.lemmas.Str.{utf8_valid_len-IsUtf8}
use Rattle.std.proofs.lemmas.Bool.Decides.{nat_tests}
use Rattle.ofn_tree.specs.declared.token.Kind.TheVariants.{OpenBracket, CloseBracket, Name}
use Rattle.ofn_tree.specs.Token.{PlainToken}
use Rattle.ofn_tree.specs.Lexemes.{end_line, bad_byte_line, utf8_front, mark_len, front_pieces, pieces_from, pieces}
use Rattle.ofn_tree.specs.Document.{Met, DocumentTokens, nothing_met, met_after, is_document_name, behind_name}
use Rattle.ofn_tree.specs.Document.{with_token, document_front, document}
use Rattle.ofn_tree.specs.Items.{marks, nesting, IsTree}
use Rattle.ofn_tree.specs.Faults.{bracket_fault}
use Rattle.ofn_reader.specs.Texts.{HasItems}
use Rattle.ofn_writer.specs.Canonical.{items_text}
use Rattle.text_laws.proofs.Phrases.{Phrase, word, iri, call, text_of, texts_of, item_of, token, tokens_of, all_tokens}
use Rattle.text_laws.proofs.Cuts.{wholes, wholes_append, Cuts, cuts_phrase}
use Rattle.text_laws.proofs.Terms.{Stands}
use Rattle.text_laws.proofs.Texts.{text_utf8}
use Rattle.text_laws.proofs.Made.{marks_phrase, fault_phrase, with_tokens, Passes, passes_phrases}

-- ---- the pieces of a text in UTF-8

module _ (text : List ℕ) (utf8 : IsUtf8 text) where
  same_length : utf8_valid_len text ≡ length text
  same_length = utf8_valid_len-IsUtf8 text utf8

  not_less : (n : ℕ) → nat_lt n n ≡ false
  not_less n = grind (arith, nat_tests)

  no_bad_byte : bad_byte_line text ≡ None
  no_bad_byte =
      ap (λ k. cond (nat_lt k (length text)) (Some (end_line (take k text))) None) same_length
      ∙ ap (λ b. cond b (Some (end_line (take (length text) text))) None) (not_less (length text))

  whole_front : utf8_front text ≡ text
  whole_front = ap (λ k. take k text) same_length ∙ take-length text

  pub pieces_of_utf8 : pieces text ≡ front_pieces None text
  pieces_of_utf8 = λ i. front_pieces (no_bad_byte i) (whole_front i)

pub with_ok : (ts us : List PlainToken) (after : ℕ)
    → with_tokens ts (Ok (record { tokens = us; place_behind = after }))
    ≡ Ok (record { tokens = ts ++ us; place_behind = after })
with_ok [] us after = refl
with_ok (t ∷ ts) us after = ap (with_token t) (with_ok ts us after)

-- ---- a phrase alone

-- a group of this name is a document
abbrev begins_document : Phrase → Bool
begins_document (word w) = false
begins_document (iri w) = false
begins_document (call w ps) = is_document_name (behind_name w nothing_met.latest)

-- it begins with no byte order mark, and is no document
pub record IsAlone (p : Phrase) : Type 0 where
  pub no_mark : mark_len (text_of p) ≡ 0
  pub no_document : begins_document p ≡ false

abbrev read_to : ℕ → List PlainToken → DocumentTokens
read_to end ts = record { tokens = ts; place_behind = end }

front_is : (p : Phrase) (n place end : ℕ) → begins_document p ≡ false
    → document_front end nothing_met (wholes (tokens_of n place p)) ≡ Ok (read_to end (tokens_of n place p))
front_is (word w) n place end other = refl
front_is (iri w) n place end other = refl
front_is (call w ps) n place end other =
    let p1 : ℕ = place + length w in
    let p2 : ℕ = place + length w + 1 in
    let name : PlainToken = token Name w place n in
    let bracket : PlainToken = token OpenBracket (40 ∷ []) p1 n in
    let close : PlainToken =
    token CloseBracket (41 ∷ []) (place + length w + 1 + length (items_text (texts_of ps))) n in
    let m : Met = met_after OpenBracket (40 ∷ []) (met_after Name w nothing_met) in
    let middle : Passes false end 1 m (all_tokens n p2 ps) 1 = passes_phrases false end 1 m n p2 ps (omega arith) in
    ap (λ l. with_token name (with_token bracket (document_front end m l)))
    (wholes_append (all_tokens n p2 ps) (close ∷ []))
    ∙ ap (λ b. with_token name
    (with_token bracket
    (document_front end (record { depth = 1; document = b; latest = nothing_met.latest })
    (wholes (all_tokens n p2 ps) ++ wholes (close ∷ [])))))
    other
    ∙ ap (λ r. with_token name (with_token bracket r))
    (middle.goes (wholes (close ∷ [])) ∙ with_ok (all_tokens n p2 ps) (close ∷ []) end)

module _ (p : Phrase) (stands : Stands p) (alone : IsAlone p) (nests : nesting (item_of 1 p) ≤ 64) where
  abbrev text : List ℕ
  text = text_of p

  abbrev tokens : List PlainToken
  tokens = tokens_of 1 0 p

  cut : Cuts None 0 1 (text_of p ++ []) (tokens_of 1 0 p) (0 + length (text_of p)) 1 []
  cut = cuts_phrase None 0 1 p [] stands.0 refl

  pieces_are : pieces (text_of p) ≡ wholes (tokens_of 1 0 p)
  pieces_are =
      pieces_of_utf8 (text_of p) (text_utf8 p stands.1)
      ∙ ap (λ k. pieces_from None k 0 1 (text_of p)) alone.no_mark
      ∙ ap (pieces_from None 0 0 1) (sym (append-nil (text_of p)))
      ∙ cut.cut
      ∙ append-nil (wholes (tokens_of 1 0 p))

  document_is : document (text_of p) ≡ Ok (read_to (length (text_of p)) (tokens_of 1 0 p))
  document_is =
      ap (document_front (length (text_of p)) nothing_met) pieces_are
      ∙ front_is p 1 0 (length (text_of p)) alone.no_document

  tree : IsTree (tokens_of 1 0 p) (item_of 1 p ∷ [])
  tree = record {
    made = sym (ap marks (sym (append-nil (tokens_of 1 0 p))) ∙ marks_phrase 1 0 p [] refl);
    nested = omega (arith, nests);
  }

  balanced : (last : ℕ) → bracket_fault last 0 (tokens_of 1 0 p) ≡ None
  balanced last =
      ap (bracket_fault last 0) (sym (append-nil (tokens_of 1 0 p)))
      ∙ fault_phrase last 0 1 0 p [] (omega (arith, nests))

  pub phrase_items : HasItems (text_of p) (item_of 1 p ∷ []) (length (text_of p))
  phrase_items = record {
    tokens = read_to (length (text_of p)) (tokens_of 1 0 p);
    cut = ap result_ok document_is;
    balanced = balanced (end_line (text_of p));
    tree = tree;
    behind = refl;
  }
