-- Tokens as contracts see them.
use Rattle.std.specs.Prelude.{ℕ, List, drop, map, Bool, true, false}
use Rattle.ofn_tree.specs.declared.token.Kind.{Kind}
use Rattle.ofn_tree.specs.declared.token.Kind.TheVariants.{OpenBracket, CloseBracket, Iri, String, Tag, Carets, Name}
use Rattle.ofn_tree.specs.declared.token.Token.{Token}

-- a token with its own bytes, those of an IRI without its `<` and `>` and those of a string without its quotation
-- marks; the place of its first byte; and its line
pub record PlainToken : Type 0 where
  pub kind : Kind
  pub text : List ℕ
  pub start : ℕ
  pub line : ℕ

-- a token as the definitions see it
abbrev pub plain_token : Token → PlainToken
plain_token t = record { kind = t.kind; text = t.text.now; start = t.start; line = t.line }

-- the tokens from a place on
abbrev pub tokens_from : List Token → ℕ → List PlainToken
tokens_from tokens place = drop place (map plain_token tokens)

-- the token is an opening bracket
abbrev pub is_open : Kind → Bool
is_open OpenBracket = true
is_open _ = false

-- the token is a closing bracket
abbrev pub is_close : Kind → Bool
is_close CloseBracket = true
is_close _ = false

-- the token is a name
abbrev pub is_name : Kind → Bool
is_name Name = true
is_name _ = false

-- the token is a string
abbrev pub is_string : Kind → Bool
is_string String = true
is_string _ = false

-- the token is a tag of a language
abbrev pub is_tag : Kind → Bool
is_tag Tag = true
is_tag _ = false

-- the token is the two carets before a type
abbrev pub is_carets : Kind → Bool
is_carets Carets = true
is_carets _ = false

-- what may name the type of a literal
abbrev pub is_datatype : Kind → Bool
is_datatype Name = true
is_datatype Iri = true
is_datatype _ = false
