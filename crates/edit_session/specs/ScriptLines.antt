-- The lines of a script, and what each asks for.
use Rattle.std.specs.Prelude.{ℕ, Bool, not, List, [], codes, Option, Some, None, nat_eq}
use Rattle.std.specs.Prelude.{if◌then◌else◌}
use Rattle.std.specs.List.{filter, list_any, before_first, after_first}
use Rattle.std.specs.Str.{bytes_eq, is_utf8}
use Rattle.certificate_lines.specs.Lines.{is_blank, number_in}

-- of the lines of a text, those that are not of whitespace alone
abbrev pub script_lines : List (List ℕ) → List (List ℕ)
script_lines ls = filter (λ l. not (is_blank l)) ls

-- a text is to be added as an axiom, the axiom of a number is to be removed, a text is asked as a query; or it is no
-- line of a script
pub data Request : Type 0 where
  adds : List ℕ → Request
  removes : ℕ → Request
  asks : List ℕ → Request
  other : Request

abbrev pub is_space : ℕ → Bool
is_space b = nat_eq b 32

-- the removal of an axiom, whose number stands in decimal without leading zeros
abbrev pub removal : Option ℕ → Request
removal (Some k) = removes k
removal None = other

-- what a word asks for, with the text after it
abbrev pub worded : List ℕ → List ℕ → Request
worded word text =
    if bytes_eq word (codes "add") then adds text
    else if bytes_eq word (codes "remove") then removal (number_in text)
    else if bytes_eq word (codes "ask") then asks text
    else other

-- a word and its text stand before and after the first blank
abbrev pub split_request : List ℕ → Request
split_request l = if list_any is_space l then worded (before_first is_space l) (after_first is_space l) else other

-- what a line of a script asks for
abbrev pub request : List ℕ → Request
request l = if is_utf8 l then split_request l else other
