-- The first malformed line of what is to be a text of lines.
use Rattle.std.specs.Prelude.{◌≡◌, ℕ, true, false, suc, ◌+◌, ◌-◌, ◌^◌, ◌<◌, ◌≤◌, List, [], ◌∷◌, ◌++◌, length, take, min}
use Rattle.std.specs.Prelude.{Option, Some, None, option_map, if◌then◌else◌}
use Rattle.std.specs.List.{list_all}
use Rattle.certificate_lines.specs.Lines.{is_blank}
use Rattle.certificate_lines.specs.declared.fault.LineFault.{LineFault}
use Rattle.certificate_lines.specs.declared.fault.LineFault.TheVariants.{Malformed, NoMemory}

-- the number of the first line that is not blank, where the first of all has the number n
abbrev pub first_unblank : ℕ → List (List ℕ) → Option ℕ
first_unblank n [] = None
first_unblank n (l ∷ ls) = if is_blank l then first_unblank (n + 1) ls else Some n

-- whether there is such a line tells whether each is blank
abbrev pub TellsBlank : List (List ℕ) → Option ℕ → Type 0
TellsBlank lines None = list_all is_blank lines ≡ true
TellsBlank lines (Some n) = list_all is_blank lines ≡ false

-- some text, as the reading has it, begins with these lines
abbrev pub BeginsText : {K : Type 0} → (List (List ℕ) → Option K) → List (List ℕ) → Type 0
BeginsText {K = K} reading front = (rest : List (List ℕ)) × (k : K) × (reading (front ++ rest) ≡ Some k)

-- The lines are no text, and the line after k others is the first that keeps them from being one: a text begins with
-- the lines before it, and none with these and it; or it would stand after the last, and a text begins with all lines.
pub record StopsAfter {K : Type 0} (reading : List (List ℕ) → Option K) (lines : List (List ℕ)) (k : ℕ) : Type 0 where
  pub no_text : reading lines ≡ None
  pub within : k ≤ length lines
  pub begins : BeginsText reading (take k lines)
  pub stops : k < length lines → BeginsText reading (take (suc k) lines) → ⊥

-- the same of the line of the number n, where the first of the lines has the number `first`
abbrev pub IsFirstMalformed : {K : Type 0} → ℕ → (List (List ℕ) → Option K) → List (List ℕ) → ℕ → Type 0
IsFirstMalformed first reading lines n = (k : ℕ) × (n ≡ first + k) × StopsAfter reading lines k

-- The malformed line that is told is the first, and lines of which none is told are a text.
pub record TellsMalformed {K : Type 0} (first : ℕ) (reading : List (List ℕ) → Option K)
    (malformed : List (List ℕ) → Option ℕ) : Type 0 where
  pub is_first : (lines : List (List ℕ)) (n : ℕ) → malformed lines ≡ Some n → IsFirstMalformed first reading lines n
  pub unless : (lines : List (List ℕ)) → malformed lines ≡ None → (k : K) × (reading lines ≡ Some k)

-- a fault that is told: that there is no text, or that memory was refused
abbrev pub IsFaultOf : {A : Type 0} → Option A → LineFault → Type 0
IsFaultOf there NoMemory = Unit {0}
IsFaultOf there (Malformed line) = there ≡ None

-- a fault of the line of this number
abbrev pub IsFaultAt : {A : Type 0} → ℕ → Option A → LineFault → Type 0
IsFaultAt n there NoMemory = Unit {0}
IsFaultAt n there (Malformed line) = (there ≡ None) × (line ≡ n)

-- the number of a line as it is told, which is at most the greatest of 32 bits
abbrev pub clamped_line : ℕ → ℕ
clamped_line n = min n (2 ^ 32 - 1)

-- the fault is that of the malformed line
abbrev pub IsFaultOfLine : Option ℕ → LineFault → Type 0
IsFaultOfLine malformed NoMemory = Unit {0}
IsFaultOfLine malformed (Malformed line) = option_map clamped_line malformed ≡ Some line
