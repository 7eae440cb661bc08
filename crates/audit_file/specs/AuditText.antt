-- The text of an audit, line by line, and what it stands for. The first line has the number 1.
use Rattle.std.specs.Prelude.{◌≡◌, ℕ, zero, suc, ◌+◌, ◌-◌, List, [], ◌∷◌, length, take, drop, codes, Option, Some, None}
use Rattle.std.specs.Prelude.{option_map, option_and_then, Result, Ok, Err, if◌then◌else◌, ◌&&◌, nat_le}
use Rattle.std.specs.Result.{result_map_both}
use Rattle.std.specs.Str.{bytes_eq}
use Rattle.axiom_sets.specs.Sets.{Limited}
use Rattle.certificate_lines.specs.Lines.{words, number_in}
use Rattle.certificate_lines.specs.Malformed.{first_unblank, clamped_line}
use Rattle.certificate_lines.specs.Body.{is_end_line}
use Rattle.certificate_lines.specs.declared.fault.LineFault.{LineFault}
use Rattle.certificate_lines.specs.declared.fault.LineFault.TheVariants.{Malformed, NoMemory}
use Rattle.shq_terms.specs.Listed.{Listed}
use Rattle.finite_model.specs.ModelLists.{ModelLists}
use Rattle.finite_model.specs.ModelText.{elements_from, model_of}
use Rattle.finite_model.specs.Malformed.{malformed_model_line}
use Rattle.refutation_tree.specs.RefutationLists.{RefutationLists}
use Rattle.refutation_tree.specs.RefutationText.{axiom_set, refutation_of}
use Rattle.refutation_tree.specs.Malformed.{malformed_refutation_line}
use Rattle.audit_file.specs.AuditLists.{AuditLists, last_justified, last_repaired, follows, with_justification}
use Rattle.audit_file.specs.AuditLists.{with_repair, empty_audit}
use Rattle.audit_file.specs.Following.{can_follow}

-- ---- reading on

-- the lines that are still to be read, and the number of the first of them
pub record Ahead : Type 0 where
  pub number : ℕ
  pub lines : List (List ℕ)

-- the first line ahead, and what is ahead behind it
pub record IsNextLine (at : Ahead) (line : List ℕ) (behind : Ahead) : Type 0 where
  pub front : at.lines ≡ line ∷ behind.lines
  pub later : behind.number ≡ at.number + 1

-- what was read and what is ahead then; or the number of the malformed line
abbrev pub Reads : Type 0 → Type 0
Reads A = Result (A × Ahead) ℕ

-- one reading after another
abbrev pub read_on : {A B : Type 0} → Reads A → (A → Ahead → Result B ℕ) → Result B ℕ
read_on r f = elim r [ Err n ↦ Err n | Ok p ↦ f p.0 p.1 ]

-- one line, if it says something; where it is missing, it is malformed as well
abbrev pub line_from : {A : Type 0} → (List ℕ → Option A) → ℕ → List (List ℕ) → Reads A
line_from says n [] = Err n
line_from says n (l ∷ ls) = elim (says l) [ None ↦ Err n | Some a ↦ Ok (a, record { number = n + 1; lines = ls }) ]

-- what the next line says, or its number where it says nothing
abbrev pub line_read : {A : Type 0} → (List ℕ → Option A) → Ahead → Reads A
line_read says at = line_from says at.number at.lines

-- how many lines there are up to the first line `end` and with it, or in all where there is none
abbrev pub block_len : List (List ℕ) → ℕ
block_len [] = 0
block_len (l ∷ ls) = if is_end_line l then 1 else suc (block_len ls)

-- These lines, as a text of their own. Its reader gives its first line the number 2.
abbrev pub block : List (List ℕ) → List (List ℕ)
block ls = take (block_len ls) ls

-- what is ahead behind the lines of a refutation or a model
abbrev pub behind_block : Ahead → Ahead
behind_block at = record { number = at.number + block_len at.lines; lines = drop (block_len at.lines) at.lines }

-- the number of a line of a block, whose first line has the number that is given, from the number that its reader tells
abbrev pub line_of_block : ℕ → Option ℕ → ℕ
line_of_block first None = 0
line_of_block first (Some n) = first + n - 2

-- a block, if it is the text of something; the malformed line is that of the block
abbrev pub block_read : {K : Type 0} → (List (List ℕ) → Option K) → (List (List ℕ) → Option ℕ) → Ahead → Reads K
block_read stands_for malformed at = elim (stands_for (block at.lines)) [
  | None ↦ Err (line_of_block at.number (malformed (block at.lines)))
  | Some k ↦ Ok (k, behind_block at)
]

-- one after another, as many as a number says; each is told how many come after it
abbrev pub times : {A : Type 0} → (ℕ → A → Ahead → Reads A) → ℕ → A → Ahead → Reads A
times step zero a at = Ok (a, at)
times step (suc k) a at = read_on (step k a at) (times step k)

-- ---- the lines of an audit

-- just these bytes
abbrev pub fixed : List ℕ → List ℕ → Option (Unit {0})
fixed text line = if bytes_eq line text then Some tt else None

-- a number up to the most
abbrev pub up_to : ℕ → ℕ → Option ℕ
up_to most n = if nat_le n most then Some n else None

-- `KEYWORD N`, with a number up to the most
abbrev pub count_line : List ℕ → ℕ → List (List ℕ) → Option ℕ
count_line keyword most (k ∷ n ∷ []) = if bytes_eq k keyword then option_and_then (up_to most) (number_in n) else None
count_line keyword most _ = None

-- the number behind the keyword of a line, up to the most
abbrev pub count_in : List ℕ → ℕ → List ℕ → Option ℕ
count_in keyword most line = count_line keyword most (words line)

-- the set of these words, which are numbers from 1 to the count of axioms and ascend
abbrev pub numbers_set : ℕ → List (List ℕ) → Option Limited
numbers_set count ws = option_map (axiom_set count) (elements_from 1 (count + 1) ws)

-- `set K ..`
abbrev pub set_line : ℕ → List (List ℕ) → Option Limited
set_line count [] = None
set_line count (k ∷ ws) = if bytes_eq k (codes "set") then numbers_set count ws else None

-- a set that comes after the one before it, and after which so many more can come
abbrev pub later_set : ℕ → Option Limited → ℕ → Limited → Option Limited
later_set count before more s =
    if follows before s && nat_le more (can_follow count (Some s)) then Some s else None

-- the set that a line `set` names, where it stands behind the one before in the order of sets, and so many more can
-- come after it
abbrev pub set_in : ℕ → Option Limited → ℕ → List ℕ → Option Limited
set_in count before more line = option_and_then (later_set count before more) (set_line count (words line))

-- ---- what an audit lists

-- the refutation that the next lines are, or the first malformed line
abbrev pub refutation_read : Listed → Ahead → Reads RefutationLists
refutation_read o at = block_read (refutation_of o) (malformed_refutation_line o) at

-- the model that the next lines are, or the first malformed line
abbrev pub model_read : Listed → Ahead → Reads ModelLists
model_read o at = block_read (model_of o) (malformed_model_line o) at

-- the audit with the justification that the next lines are, before so many more, or the first malformed line
abbrev pub justification_read : Listed → ℕ → AuditLists → Ahead → Reads AuditLists
justification_read o more a at =
    read_on (line_read (set_in (length o.axioms) (last_justified a) more) at)
    (λ s from. read_on (refutation_read o from) (λ r next. Ok (with_justification s r a, next)))

-- the audit with the repair that the next lines are, before so many more, or the first malformed line
abbrev pub repair_read : Listed → ℕ → AuditLists → Ahead → Reads AuditLists
repair_read o more a at =
    read_on (line_read (set_in (length o.axioms) (last_repaired a) more) at)
    (λ s from. read_on (model_read o from) (λ m next. Ok (with_repair s m a, next)))

-- a line that says how many, of which no more can be than the most, and then so many
abbrev pub counted_read : List ℕ → ℕ → (ℕ → AuditLists → Ahead → Reads AuditLists) → AuditLists → Ahead
    → Reads AuditLists
counted_read keyword most step a at = read_on (line_read (count_in keyword most) at) (λ n from. times step n a from)

-- the audit with the justifications that the next lines are, or the first malformed line
abbrev pub justifications_read : Listed → AuditLists → Ahead → Reads AuditLists
justifications_read o a at =
    counted_read (codes "justifications") (can_follow (length o.axioms) (last_justified a)) (justification_read o) a at

-- the audit with the repairs that the next lines are, or the first malformed line
abbrev pub repairs_read : Listed → AuditLists → Ahead → Reads AuditLists
repairs_read o a at =
    counted_read (codes "repairs") (can_follow (length o.axioms) (last_repaired a)) (repair_read o) a at

-- nothing but blank lines is left
abbrev pub blank_read : Ahead → Result (Unit {0}) ℕ
blank_read at = elim (first_unblank at.number at.lines) [ None ↦ Ok tt | Some n ↦ Err n ]

-- the line `end audit`, and then blank lines
abbrev pub end_read : Ahead → Result (Unit {0}) ℕ
end_read at = read_on (line_read (fixed (codes "end audit")) at) (λ u from. blank_read from)

-- what was read stands, if the end follows
abbrev pub closed : AuditLists → Ahead → Result AuditLists ℕ
closed a at = result_map_both (λ u. a) (λ n. n) (end_read at)

-- all lines
abbrev pub audit_read : Listed → AuditLists → Ahead → Result AuditLists ℕ
audit_read o a at =
    read_on (line_read (fixed (codes "audit")) at)
    (λ u first. read_on (justifications_read o a first) (λ b second. read_on (repairs_read o b second) closed))

-- the audit that the lines stand for, or the number of the first malformed line
abbrev pub audit_in : Listed → List (List ℕ) → Result AuditLists ℕ
audit_in o ls = audit_read o empty_audit (record { number = 1; lines = ls })

-- ---- faults

-- the number of the malformed line as it is told
abbrev pub told : {A : Type 0} → Result A ℕ → Option ℕ
told (Ok a) = None
told (Err n) = Some (clamped_line n)

-- the fault of a line of a block, whose first line has the number that is given, from the fault that its reader told
abbrev pub IsShifted : ℕ → LineFault → LineFault → Type 0
IsShifted first (Malformed n) (Malformed m) = m ≡ clamped_line (first + n - 2)
IsShifted first NoMemory NoMemory = Unit {0}
IsShifted first e f = ⊥

-- a fault that is told: the malformed line, or that memory was refused
abbrev pub IsFaultBy : {A : Type 0} → Result A ℕ → LineFault → Type 0
IsFaultBy r NoMemory = Unit {0}
IsFaultBy r (Malformed line) = told r ≡ Some line
