-- Tokens as slices of a text.
use Rattle.std.specs.Prelude.{◌≡◌, ℕ, ◌+◌, ◌≤◌, List, [], ◌∷◌, length, take, drop}
use Rattle.ofn_tree.specs.declared.token.Kind.{Kind}
use Rattle.ofn_tree.specs.declared.token.Kind.TheVariants.{Iri, String}
use Rattle.ofn_tree.specs.Token.{PlainToken}
use Rattle.ofn_tree.specs.Lexemes.{end_line}
use Rattle.ofn_tree.specs.Document.{DocumentTokens}

-- how many bytes stand before a token's text that are not part of it, and as many after it: the `<` and `>` round an
-- IRI, and the quotation marks round a string
abbrev pub around : Kind → ℕ
around Iri = 1
around String = 1
around _ = 0

-- how many bytes of the input a token takes up
abbrev pub width : PlainToken → ℕ
width t = around t.kind + (length t.text + around t.kind)

-- the token's text is a slice of the input
abbrev pub IsSlice : List ℕ → PlainToken → Type 0
IsSlice input t = t.text ≡ take (length t.text) (drop (t.start + around t.kind) input)

-- the tokens are slices of the input, in order and apart, between two places
abbrev pub AreSpans : List ℕ → ℕ → List PlainToken → ℕ → Type 0
AreSpans input from [] to = from ≤ to
AreSpans input from (t ∷ ts) to = (from ≤ t.start) × IsSlice input t × AreSpans input (t.start + width t) ts to

-- the tokens that are read are slices of the input, in order and apart, up to the place after the last byte that was
-- read, which is in the input
abbrev pub AreSlices : List ℕ → DocumentTokens → Type 0
AreSlices input r = AreSpans input 0 r.tokens r.place_behind × (r.place_behind ≤ length input)

-- each token has the line of its first byte
abbrev pub HaveLines : List ℕ → List PlainToken → Type 0
HaveLines input [] = Unit {0}
HaveLines input (t ∷ ts) = (t.line ≡ end_line (take t.start input)) × HaveLines input ts
