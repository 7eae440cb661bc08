-- Lines and words as they are written, and what is read of them.
use Rattle.std.specs.Prelude.{◌≡◌, ℕ, ◌-◌, ◌^◌, ◌<◌, Bool, not, ◌&&◌, nat_eq, IsTrue, List, [], ◌∷◌, ◌++◌, length}
use Rattle.std.specs.Prelude.{decimal, Some, slice_index}
use Rattle.std.specs.List.{list_all, flat_map}
use Rattle.certificate_lines.specs.Lines.{lines, words, number_in, iri_in}

-- words with a blank before each
abbrev pub spaced : List (List ℕ) → List ℕ
spaced ws = flat_map (λ w. 32 ∷ w) ws

-- words with a blank between them
abbrev pub line_of : List ℕ → List (List ℕ) → List ℕ
line_of word more = word ++ spaced more

-- a line with its line feed
abbrev pub fed : List ℕ → List ℕ
fed line = line ++ 10 ∷ []

-- lines with a line feed after each
abbrev pub text_of : List (List ℕ) → List ℕ
text_of ls = flat_map fed ls

-- there is no blank in it
abbrev pub is_word : List ℕ → Bool
is_word word = list_all (λ b. not (nat_eq b 32)) word

-- there is no line feed in it, and no carriage return at its end
abbrev pub is_line : List ℕ → Bool
is_line line = list_all (λ b. not (nat_eq b 10)) line && not (nat_eq (slice_index line (length line - 1)) 13)

-- words that are written as a line are read back
abbrev pub WordsAreReadBack : Type 0
WordsAreReadBack = (word : List ℕ) (more : List (List ℕ)) → IsTrue (list_all is_word (word ∷ more))
    → words (line_of word more) ≡ word ∷ more

-- after the last line feed there is an empty line more
abbrev pub LinesAreReadBack : Type 0
LinesAreReadBack = (ls : List (List ℕ)) → IsTrue (list_all is_line ls) → lines (text_of ls) ≡ ls ++ [] ∷ []

-- a number that is written is read back
abbrev pub NumbersAreReadBack : Type 0
NumbersAreReadBack = (n : ℕ) → n < 2 ^ 32 → number_in (decimal n) ≡ Some n

-- an IRI that is written between brackets is read back
abbrev pub IrisAreReadBack : Type 0
IrisAreReadBack = (name : List ℕ) → iri_in (60 ∷ name ++ 62 ∷ []) ≡ Some name
