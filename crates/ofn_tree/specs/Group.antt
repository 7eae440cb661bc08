-- The document's group in words of brackets: where it begins, and where it ends.
use Rattle.std.specs.Prelude.{◌≡◌, ℕ, ◌≤◌, List, [], ◌∷◌, ◌++◌, ◌⊎◌, length, codes}
use Rattle.ofn_tree.specs.declared.token.Kind.TheVariants.{OpenBracket, CloseBracket, String, Carets, Name}
use Rattle.ofn_tree.specs.Token.{PlainToken}
use Rattle.ofn_tree.specs.Document.{DocumentTokens, depth_after}

-- how many brackets are open after tokens
abbrev pub open_behind : ℕ → List PlainToken → ℕ
open_behind d [] = d
open_behind d (t ∷ ts) = open_behind (depth_after t.kind d) ts

-- before the tokens, between them and after them some bracket is open
abbrev pub StaysOpen : ℕ → List PlainToken → Type 0
StaysOpen d [] = 1 ≤ d
StaysOpen d (t ∷ ts) = (1 ≤ d) × StaysOpen (depth_after t.kind d) ts

-- The tokens end with a string and carets, so that a name after them is part of their literal.
pub record EndsWithCarets (ts : List PlainToken) : Type 0 where
  pub front : List PlainToken
  pub string : PlainToken
  pub carets : PlainToken
  pub made : ts ≡ front ++ string ∷ (carets ∷ [])
  pub is_string : string.kind ≡ String
  pub is_carets : carets.kind ≡ Carets

-- The tokens end inside a group whose name is `Ontology` and which begins where no bracket is open: d brackets are
-- open, that of the group among them.
pub record IsInsideDocument (d : ℕ) (ts : List PlainToken) : Type 0 where
  pub before : List PlainToken
  pub name : PlainToken
  pub bracket : PlainToken
  pub inside : List PlainToken
  pub made : ts ≡ before ++ name ∷ (bracket ∷ inside)
  pub outside : open_behind 0 before ≡ 0
  pub apart : EndsWithCarets before → ⊥
  pub is_name : name.kind ≡ Name
  pub is_ontology : name.text ≡ codes "Ontology"
  pub opens : bracket.kind ≡ OpenBracket
  pub stays : StaysOpen 1 inside
  pub level : open_behind 1 inside ≡ d

-- The tokens end with the bracket that closes such a group.
pub record EndsDocument (ts : List PlainToken) : Type 0 where
  pub front : List PlainToken
  pub bracket : PlainToken
  pub made : ts ≡ front ++ bracket ∷ []
  pub is_inside : IsInsideDocument 1 front
  pub closes : bracket.kind ≡ CloseBracket

-- The tokens that are read end with that bracket, or the whole input is read.
abbrev pub EndsDocumentOrInput : List ℕ → DocumentTokens → Type 0
EndsDocumentOrInput input r = EndsDocument r.tokens ⊎ (r.place_behind ≡ length input)

-- No token follows the first bracket that closes such a group.
abbrev pub EndsAtFirstDocument : List PlainToken → Type 0
EndsAtFirstDocument ts = (front rest : List PlainToken) (t : PlainToken) → ts ≡ front ++ t ∷ rest
    → EndsDocument (front ++ t ∷ []) → rest ≡ []
