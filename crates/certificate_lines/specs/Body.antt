-- Texts that are read line by line: a first line, and then the text that follows it; or lines that each add to what was
-- read, the line `end`, and blank lines. Beside each reading stands the number of the first malformed line.
use Rattle.std.specs.Prelude.{ℕ, ◌+◌, Bool, true, false, List, [], ◌∷◌, codes, Option, Some, None, option_and_then}
use Rattle.std.specs.Prelude.{if◌then◌else◌}
use Rattle.std.specs.List.{list_all}
use Rattle.std.specs.Str.{bytes_eq}
use Rattle.certificate_lines.specs.Lines.{is_blank}
use Rattle.certificate_lines.specs.Malformed.{first_unblank}

-- ---- a first line

-- what the first line says decides how the lines after it are read
abbrev pub after_line : {A K : Type 0} → (List ℕ → Option A) → (A → List (List ℕ) → Option K) → List (List ℕ) → Option K
after_line first rest [] = None
after_line first rest (l ∷ ls) = option_and_then (λ a. rest a ls) (first l)

-- the first malformed line, where the first of all has the number n, from that of the lines after it
abbrev pub malformed_after_line : {A : Type 0} → ℕ → (List ℕ → Option A) → (A → List (List ℕ) → Option ℕ)
    → List (List ℕ) → Option ℕ
malformed_after_line n first rest [] = Some n
malformed_after_line n first rest (l ∷ ls) = elim (first l) [ None ↦ Some n | Some a ↦ rest a ls ]

-- ---- a body

-- the line is `end`
abbrev pub is_end_line : List ℕ → Bool
is_end_line line = bytes_eq line (codes "end")

-- nothing but blank lines follows
abbrev pub blank_end : {K : Type 0} → K → List (List ℕ) → Option K
blank_end k ls = if list_all is_blank ls then Some k else None

-- lines that are read one after another, until the line `end`, after which there are blank lines alone
abbrev pub read_body : {B K : Type 0} → (B → List ℕ → Option B) → (B → K) → B → List (List ℕ) → Option K
read_body read whole b [] = None
read_body read whole b (l ∷ ls) = elim (is_end_line l) [
  | true ↦ blank_end (whole b) ls
  | false ↦ elim (read b l) [ None ↦ None | Some next ↦ read_body read whole next ls ]
]

-- the first malformed line of a body, where its first line has the number n
abbrev pub malformed_in_body : {B : Type 0} → (B → List ℕ → Option B) → ℕ → B → List (List ℕ) → Option ℕ
malformed_in_body read n b [] = Some n
malformed_in_body read n b (l ∷ ls) = elim (is_end_line l) [
  | true ↦ first_unblank (n + 1) ls
  | false ↦ elim (read b l) [ None ↦ Some n | Some next ↦ malformed_in_body read (n + 1) next ls ]
]
