-- Phrases: names, IRIs between `<` and `>`, and names with phrases in brackets behind them. Their text, their items and
-- their tokens.
use Rattle.std.proofs.Common.{ℕ, ◌+◌, Bool, false, true, ◌&&◌, List, [], ◌∷◌, ◌++◌, length, Some}
use Rattle.std.specs.List.{list_all}
use Rattle.ofn_tree.specs.declared.token.Kind.{Kind}
use Rattle.ofn_tree.specs.declared.token.Kind.TheVariants.{OpenBracket, CloseBracket, Iri, Name}
use Rattle.ofn_tree.specs.Token.{PlainToken}
use Rattle.ofn_tree.specs.Lexemes.{is_iri_byte, is_name_byte}
use Rattle.ofn_tree.specs.Items.{Item, name_item, iri_item, group_item, Items, no_items, item}
use Rattle.ofn_writer.specs.Canonical.{iri_text, items_text, group_text, line}

mutual
  pub data Phrase : Type 0 where
    word : List ℕ → Phrase
    iri : List ℕ → Phrase
    call : List ℕ → Phrases → Phrase

  pub data Phrases : Type 0 where
    none : Phrases
    more : Phrase → Phrases → Phrases

-- ---- text

abbrev mutual
  pub text_of : Phrase → List ℕ
  text_of (word w) = w
  text_of (iri w) = iri_text w
  text_of (call w ps) = group_text w (texts_of ps)

  pub texts_of : Phrases → List (List ℕ)
  texts_of none = []
  texts_of (more p ps) = text_of p ∷ texts_of ps

abbrev pub is_name : List ℕ → Bool
is_name [] = false
is_name (b ∷ bs) = is_name_byte b && list_all is_name_byte bs

-- the phrase may stand in a text
abbrev mutual
  pub can_stand : Phrase → Bool
  can_stand (word w) = is_name w
  can_stand (iri w) = list_all is_iri_byte w
  can_stand (call w ps) = is_name w && can_all_stand ps

  pub can_all_stand : Phrases → Bool
  can_all_stand none = true
  can_all_stand (more p ps) = can_stand p && can_all_stand ps

-- ---- items and tokens, on one line

abbrev mutual
  pub item_of : ℕ → Phrase → Item
  item_of n (word w) = name_item w n
  item_of n (iri w) = iri_item w n
  item_of n (call w ps) = group_item (Some w) (all_items n ps) n

  pub all_items : ℕ → Phrases → Items
  all_items n none = no_items
  all_items n (more p ps) = item (item_of n p) (all_items n ps)

abbrev pub token : Kind → List ℕ → ℕ → ℕ → PlainToken
token kind text place n = record { kind = kind; text = text; start = place; line = n }

-- from a place on
abbrev mutual
  pub tokens_of : ℕ → ℕ → Phrase → List PlainToken
  tokens_of n place (word w) = token Name w place n ∷ []
  tokens_of n place (iri w) = token Iri w place n ∷ []
  tokens_of n place (call w ps) =
      token Name w place n
      ∷ (token OpenBracket (40 ∷ []) (place + length w) n
      ∷ (all_tokens n (place + length w + 1) ps
      ++ token CloseBracket (41 ∷ []) (place + length w + 1 + length (items_text (texts_of ps))) n ∷ []))

  pub all_tokens : ℕ → ℕ → Phrases → List PlainToken
  all_tokens n place none = []
  all_tokens n place (more p ps) = tokens_of n place p ++ all_tokens n (place + length (text_of p) + 1) ps

-- ---- phrases on lines of their own, from a line on

abbrev pub lines_text : List Phrase → List ℕ
lines_text [] = []
lines_text (p ∷ ps) = line (text_of p) ++ lines_text ps

abbrev pub all_can_stand : List Phrase → Bool
all_can_stand [] = true
all_can_stand (p ∷ ps) = can_stand p && all_can_stand ps

abbrev pub lines_items : ℕ → List Phrase → Items
lines_items n [] = no_items
lines_items n (p ∷ ps) = item (item_of n p) (lines_items (n + 1) ps)

abbrev pub lines_tokens : ℕ → ℕ → List Phrase → List PlainToken
lines_tokens n place [] = []
lines_tokens n place (p ∷ ps) = tokens_of n place p ++ lines_tokens (n + 1) (place + length (text_of p) + 1) ps
