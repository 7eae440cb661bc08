-- The status and the text of an answer.
use Rattle.std.specs.Prelude.{◌≡◌, ℕ, Bool, true, false, ◌∷◌, ◌++◌, [], List, codes, Option, Some, None, string_bytes}
use Rattle.job_inputs.specs.Complaints.{Complaint, sort_status, complaint_text}
use Rattle.job_inputs.specs.declared.complaint.Place.{Place}
use Rattle.job_inputs.specs.declared.text.Text.{Text}
use Rattle.job_inputs.specs.declared.text.Text.TheVariants.{Fixed, Made, Bytes}
use Rattle.job_inputs.specs.declared.status.Status.{Status}
use Rattle.job_inputs.specs.declared.status.Status.TheVariants.{ReadFault, WriteFault, NoMemory}

-- a line of text
abbrev pub line : List ℕ → List ℕ
line text = text ++ 10 ∷ []

-- the bytes of a text of the code
abbrev pub text_bytes : Text → List ℕ
text_bytes (Fixed s) = s.now
text_bytes (Made s) = string_bytes s
text_bytes (Bytes v) = v.items

-- the line that is printed where memory is refused
abbrev pub no_memory : List ℕ
no_memory = line (codes "no memory")

-- whether it says that the source or the sink failed
abbrev pub is_fault : Status → Bool
is_fault ReadFault = true
is_fault WriteFault = true
is_fault _ = false

-- the status and the text of an answer
abbrev pub Answer : Type 0
Answer = Status × List ℕ

-- the status and the line of a complaint, or of refused memory where there is none
abbrev pub complaint_answer : Place → Option Complaint → Answer
complaint_answer place None = (NoMemory, no_memory)
complaint_answer place (Some c) = (sort_status c.sort, complaint_text place c)

-- this answer
abbrev pub IsAnswer : Answer → List ℕ → Status → Type 0
IsAnswer answer out s = ◌≡◌ {A = Answer} (s, out) answer

-- this answer, unless memory was refused
abbrev pub Gives : Answer → List ℕ → Status → Type 0
Gives answer out NoMemory = out ≡ no_memory
Gives answer out s = IsAnswer answer out s
