-- How tokens lie in a text: what stands between them, and how long they are.
use Rattle.std.specs.Prelude.{◌≡◌, ℕ, ◌+◌, ◌-◌, ◌≤◌, Bool, true, false, not, ◌&&◌, ◌||◌, List, [], ◌∷◌, ◌++◌, length}
use Rattle.std.specs.Prelude.{take, drop, nat_eq, codes}
use Rattle.std.specs.List.{list_all}
use Rattle.ofn_tree.specs.declared.token.Kind.{Kind}
use Rattle.ofn_tree.specs.declared.token.Kind.TheVariants.{OpenBracket, CloseBracket, Equals, Iri, String, Tag, Carets}
use Rattle.ofn_tree.specs.declared.token.Kind.TheVariants.{Name}
use Rattle.ofn_tree.specs.Token.{PlainToken}
use Rattle.ofn_tree.specs.Lexemes.{is_whitespace, is_comment_byte, is_iri_byte, is_tag_byte, is_name_byte, utf8_front}
use Rattle.ofn_tree.specs.Lexemes.{mark_len}
use Rattle.ofn_tree.specs.Document.{DocumentTokens}
use Rattle.ofn_tree.specs.Spans.{width}

-- ---- what stands between tokens

-- these bytes end a line, or the text where it ends there
abbrev pub EndsLine : Bool → List ℕ → Type 0
EndsLine at_end [] = at_end ≡ true
EndsLine at_end (b ∷ bs) = is_comment_byte b ≡ false

-- whitespace and comments, each of which begins with `#` and goes on to the end of its line
pub data IsGap (at_end : Bool) : List ℕ → Type 0 where
  nothing : IsGap at_end []
  space : (b : ℕ) (rest : List ℕ) → is_whitespace b ≡ true → IsGap at_end rest → IsGap at_end (b ∷ rest)
  comment : (text rest : List ℕ) → list_all is_comment_byte text ≡ true → EndsLine at_end rest → IsGap at_end rest
      → IsGap at_end (35 ∷ (text ++ rest))

-- the bytes of a text between two places
abbrev pub bytes_between : List ℕ → ℕ → ℕ → List ℕ
bytes_between text start end = take (end - start) (drop start text)

-- Between two places of a text there are only whitespace and comments before the tokens, between them and after them.
abbrev pub HaveGaps : List ℕ → ℕ → List PlainToken → ℕ → Type 0
HaveGaps text start [] end = IsGap true (bytes_between text start end)
HaveGaps text start (t ∷ ts) end = IsGap false (bytes_between text start t.start)
    × HaveGaps text (t.start + width t) ts end

-- Up to the place after the last byte that was read there are only whitespace and comments round the tokens of an
-- input, but for a byte order mark at its start.
abbrev pub HaveOnlyGaps : List ℕ → DocumentTokens → Type 0
HaveOnlyGaps input r = HaveGaps (utf8_front input) (mark_len (utf8_front input)) r.tokens r.place_behind

-- ---- how long tokens are

-- The text of a string: in it `"` and `\` stand after a backslash alone, and nothing else stands after one.
abbrev pub is_quotable : Bool → List ℕ → Bool
is_quotable escaped [] = not escaped
is_quotable true (b ∷ bs) = (nat_eq b 34 || nat_eq b 92) && is_quotable false bs
is_quotable false (b ∷ bs) = not (nat_eq b 34) && is_quotable (nat_eq b 92) bs

-- an `@`, and then one or more bytes of a tag
pub record IsTag (text : List ℕ) : Type 0 where
  pub rest : List ℕ
  pub made : text ≡ 64 ∷ rest
  pub some : 1 ≤ length rest
  pub bytes : list_all is_tag_byte rest ≡ true

-- the texts that tokens of a kind have
abbrev pub HasForm : Kind → List ℕ → Type 0
HasForm OpenBracket text = text ≡ codes "("
HasForm CloseBracket text = text ≡ codes ")"
HasForm Equals text = text ≡ codes "="
HasForm Iri text = list_all is_iri_byte text ≡ true
HasForm String text = is_quotable false text ≡ true
HasForm Tag text = IsTag text
HasForm Carets text = text ≡ codes "^^"
HasForm Name text = (1 ≤ length text) × (list_all is_name_byte text ≡ true)

-- how a token of a kind is written: an IRI between `<` and `>`, and a string between quotation marks
abbrev pub spelled : Kind → List ℕ → List ℕ
spelled Iri text = 60 ∷ (text ++ 62 ∷ [])
spelled String text = 34 ∷ (text ++ 34 ∷ [])
spelled _ text = text

-- some bytes begin with a token of this kind and text
pub record BeginsWith (bytes : List ℕ) (kind : Kind) (text : List ℕ) : Type 0 where
  pub form : HasForm kind text
  pub written : take (length (spelled kind text)) bytes ≡ spelled kind text

-- the token stands in the text at its place, and no longer token of its kind stands there
pub record IsLongest (text : List ℕ) (t : PlainToken) : Type 0 where
  pub stands : BeginsWith (drop t.start text) t.kind t.text
  pub longest : (other : List ℕ) → BeginsWith (drop t.start text) t.kind other → length other ≤ length t.text

-- each token is the longest of its kind at its place
abbrev pub AreLongest : List ℕ → List PlainToken → Type 0
AreLongest text [] = Unit {0}
AreLongest text (t ∷ ts) = IsLongest text t × AreLongest text ts
