-- A text as lines, a line as words, and what a word stands for.
use Rattle.std.specs.Prelude.{ℕ, ◌-◌, ◌^◌, Bool, not, ◌&&◌, ◌||◌, List, length, take, drop, map, nat_eq, nat_lt, Option}
use Rattle.std.specs.Prelude.{Some, None, if◌then◌else◌, slice_index}
use Rattle.std.specs.List.{list_all, slice_split}
use Rattle.std.specs.Char.{is_ascii_digit}
use Rattle.std.specs.Str.Lines.{strip_carriage_return}
use Rattle.std.specs.Str.Parse.{digits_value}
use denote.Ref.{Bor}

-- the bytes of borrowed lines or words
abbrev pub bytes_of : List (Bor (List ℕ)) → List (List ℕ)
bytes_of ls = map (λ l. l.now) ls

-- The text is cut at line feeds. A carriage return at the end of a line does not belong to it.
abbrev pub lines : List ℕ → List (List ℕ)
lines text = map strip_carriage_return (slice_split (λ b. nat_eq b 10) text)

-- blank, tab, line feed and carriage return
abbrev pub is_space : ℕ → Bool
is_space b = nat_eq b 32 || nat_eq b 9 || nat_eq b 10 || nat_eq b 13

-- the line is of whitespace alone
abbrev pub is_blank : List ℕ → Bool
is_blank line = list_all is_space line

-- Words are separated by one blank. Two blanks together, and a blank at either end, make an empty word.
abbrev pub words : List ℕ → List (List ℕ)
words line = slice_split (λ b. nat_eq b 32) line

-- decimal digits, at least one, without a leading zero
abbrev pub is_numeral : List ℕ → Bool
is_numeral word =
    list_all is_ascii_digit word && nat_lt 0 (length word)
    && (nat_eq (length word) 1 || not (nat_eq (slice_index word 0) 48))

-- the number of a numeral, where it is below 2 ^ 32
abbrev pub small_value : List ℕ → Option ℕ
small_value word = if nat_lt (digits_value 10 word) (2 ^ 32) then Some (digits_value 10 word) else None

-- the number that a word is, where it is one below 2 to the power of 32
abbrev pub number_in : List ℕ → Option ℕ
number_in word = if is_numeral word then small_value word else None

-- the bytes between `<` and `>`
abbrev pub is_bracketed : List ℕ → Bool
is_bracketed word =
    nat_lt 1 (length word) && nat_eq (slice_index word 0) 60 && nat_eq (slice_index word (length word - 1)) 62

-- the IRI between the brackets of a word
abbrev pub iri_in : List ℕ → Option (List ℕ)
iri_in word = if is_bracketed word then Some (take (length word - 2) (drop 1 word)) else None
