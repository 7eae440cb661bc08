-- Names in certificates: a full IRI between `<` and `>`, as a word of a line.
use Rattle.std.specs.Prelude.{ℕ, Bool, not, ◌&&◌, nat_eq, IsTrue, List, [], ◌∷◌, ◌++◌, position, Option}
use Rattle.std.specs.Prelude.{option_and_then}
use Rattle.std.specs.List.{list_all}
use Rattle.std.specs.Str.{bytes_eq}
use Rattle.shq_terms.specs.Distinct.{AreDistinct}
use Rattle.certificate_lines.specs.Lines.{iri_in}

-- neither a blank nor an end of a line, as each character of an IRI
abbrev pub is_word_byte : ℕ → Bool
is_word_byte b = not (nat_eq b 32) && not (nat_eq b 10) && not (nat_eq b 13)

-- names that can be written and read back: each is listed once, and is of bytes of words
pub record AreNames (names : List (List ℕ)) : Type 0 where
  pub distinct : AreDistinct names
  pub plain : IsTrue (list_all (list_all is_word_byte) names)

-- `<NAME>`
abbrev pub name_word : List ℕ → List ℕ
name_word name = 60 ∷ name ++ 62 ∷ []

-- the place in a list of the name that stands between brackets
abbrev pub name_place : List (List ℕ) → List ℕ → Option ℕ
name_place names word = option_and_then (λ iri. position (bytes_eq iri) names) (iri_in word)
