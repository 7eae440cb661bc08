-- Which answer belongs to which words and bytes, and what a run leaves of the input.
use Rattle.std.specs.Prelude.{◌≡◌, ℕ, ◌+◌, ◌<◌, ◌≤◌, ◌^◌, ◌⊎◌, [], List, length, drop, codes, nat_lt, Option, Some}
use Rattle.std.specs.Prelude.{None, MatchOption, IfSome, if◌then◌else◌}
use Rattle.std.specs.Io.KnownBytes.{Appends}
use Rattle.shq_io.specs.Causes.{TakesPrefix}
use Rattle.shq_io.specs.declared.whole.ReadEnd.{ReadEnd}
use Rattle.shq_io.specs.declared.whole.ReadEnd.TheVariants as E
use Rattle.job_inputs.specs.Answer.{line, no_memory, Answer, IsAnswer}
use Rattle.job_inputs.specs.Refusals.{IsOutOfMemory}
use Rattle.job_inputs.specs.declared.status.Status.{Status}
use Rattle.job_inputs.specs.declared.status.Status.TheVariants.{BadWords, Limit, ReadFault, WriteFault, NoMemory}
use Rattle.edit_session.specs.Entry.{Entry}
use Rattle.audit_jobs.specs.Checked.{Checked}
use Rattle.audit_jobs.specs.Decisions.{AnswersQuestion}
use Rattle.classification_jobs.specs.Classifications.{AnswersClassification}
use Rattle.audit_jobs.specs.Answers.{AnswersEvidence}
use Rattle.pinpointing_jobs.specs.Answers.{AnswersPinpointing, AnswersWorkload}
use Rattle.audit_jobs.specs.Audited.{Audited}
use Rattle.individual_jobs.specs.Answers.{AnswersWhy}
use Rattle.individual_jobs.specs.Realizations.{AnswersInstances, AnswersRealization}
use Rattle.edit_session.specs.Answers.{AnswersSession}
use Rattle.ontology_jobs.specs.Words.{Job, check, audit, decide, classify, realize, instances, reasons, session}
use Rattle.ontology_jobs.specs.Words.{pinpoint, evidence, Request, on_input, generated, request_of}

-- the line that is printed for words that ask for nothing
abbrev pub bad_words : List ℕ
bad_words = line (codes "bad words")

-- the answer where the input is not read to its end
abbrev pub end_answer : ReadEnd → Answer
end_answer E.TooLong = (Limit, line (codes "limit text"))
end_answer E.Fault = (ReadFault, line (codes "read fault"))
end_answer E.NoMemory = (NoMemory, no_memory)

-- the answer to an input that is too long
pub record IsTooLong (bytes out : List ℕ) (s : Status) (log : List Entry) : Type 0 where
  pub long : 2 ^ 24 < length bytes
  pub answer : IsAnswer (end_answer E.TooLong) out s
  pub unlogged : log ≡ []

-- the answer of a job to an input that is not too long, and the log of what it asked
abbrev pub AnswersRead : Job → List ℕ → List ℕ → Status → List Entry → Type 0
AnswersRead (check query) bytes out s log = Checked query bytes out s × (log ≡ [])
AnswersRead (audit query) bytes out s log = Audited query bytes out s × (log ≡ [])
AnswersRead (decide question budget) bytes out s log = AnswersQuestion question budget bytes out s log
AnswersRead (classify budget) bytes out s log = AnswersClassification budget bytes out s log
AnswersRead (realize budget) bytes out s log = AnswersRealization budget bytes out s log
AnswersRead (instances class budget) bytes out s log = AnswersInstances class budget bytes out s log
AnswersRead (reasons class budget) bytes out s log = AnswersWhy class budget bytes out s log
AnswersRead (session budget) bytes out s log = AnswersSession budget bytes out s log
AnswersRead (pinpoint wanted statement budget) bytes out s log =
    AnswersPinpointing wanted statement budget bytes out s log
AnswersRead (evidence statement budget) bytes out s log = AnswersEvidence statement budget bytes out s log

-- the answer of a job to an input; memory may be refused before it is read, and then nothing is logged
abbrev pub AnswersJob : Job → List ℕ → List ℕ → Status → List Entry → Type 0
AnswersJob job bytes out ReadFault log = (out ≡ line (codes "read fault")) × (log ≡ [])
AnswersJob job bytes out NoMemory log = IsOutOfMemory out (log ≡ [])
    ⊎ ((length bytes ≤ 2 ^ 24) × AnswersRead job bytes out NoMemory log)
AnswersJob job bytes out s log = IsTooLong bytes out s log ⊎ ((length bytes ≤ 2 ^ 24) × AnswersRead job bytes out s log)

-- the answer to an accepted list of words
abbrev pub AnswersRequest : Request → List ℕ → List ℕ → Status → List Entry → Type 0
AnswersRequest (on_input job) bytes out s log = AnswersJob job bytes out s log
AnswersRequest (generated number budget) bytes out s log = AnswersWorkload number budget out s log

-- the answer to the words of no job
pub record IsBadWords (out : List ℕ) (s : Status) (log : List Entry) : Type 0 where
  pub status : s ≡ BadWords
  pub text : out ≡ bad_words
  pub unlogged : log ≡ []

-- the answer to the words and the input, with the text that is written and the log
abbrev pub Answers : List (List ℕ) → List ℕ → List ℕ → Status → List Entry → Type 0
Answers words bytes out s log =
    MatchOption (request_of words) (IsBadWords out s log) (λ r. AnswersRequest r bytes out s log)

-- the sink took the text of an answer, whole, or at a fault of writing a front of it
abbrev pub Answered : Option (List ℕ) → Option (List ℕ) → List (List ℕ) → List ℕ → Status → List Entry → Type 0
Answered before now words bytes WriteFault log = (s : Status) × (out : List ℕ) × Answers words bytes out s log
    × TakesPrefix out before now
Answered before now words bytes s log = (out : List ℕ) × Answers words bytes out s log × Appends before now out

-- The bytes that are read: all that the source held, where it tells them.
abbrev pub AreAll : Option (List ℕ) → List ℕ → Type 0
AreAll held bytes = IfSome held (λ all. all ≡ bytes)

-- The answer to the bytes that are read, whatever the source tells.
abbrev pub AnswersJobOnAll : Job → Option (List ℕ) → List ℕ → Status → List Entry → Type 0
AnswersJobOnAll job held out s log = (bytes : List ℕ) × AreAll held bytes × AnswersJob job bytes out s log

-- the request is answered on bytes that are all that the source held, where it tells them
abbrev pub AnswersRequestOnAll : Request → Option (List ℕ) → List ℕ → Status → List Entry → Type 0
AnswersRequestOnAll r held out s log = (bytes : List ℕ) × AreAll held bytes × AnswersRequest r bytes out s log

-- the words are answered on bytes that are all that the source held, where it tells them
abbrev pub AnswersAll : Option (List ℕ) → List (List ℕ) → List ℕ → Status → List Entry → Type 0
AnswersAll held words out s log = (bytes : List ℕ) × AreAll held bytes × Answers words bytes out s log

-- the sink took the answer, or a front of it, to the words on all bytes that the source held
abbrev pub AnsweredAll : Option (List ℕ) → Option (List ℕ) → Option (List ℕ) → List (List ℕ) → Status → List Entry
    → Type 0
AnsweredAll held before now words s log = (bytes : List ℕ) × AreAll held bytes × Answered before now words bytes s log

-- The sink took `bad words`, whole, or at a fault of writing a front of it.
abbrev pub SaysBadWords : Option (List ℕ) → Option (List ℕ) → Status → Type 0
SaysBadWords before now BadWords = Appends before now bad_words
SaysBadWords before now WriteFault = TakesPrefix bad_words before now
SaysBadWords before now s = ⊥

-- the words of no job and those of a workload ask for no read
abbrev pub ReadsNothing : Option Request → Type 0
ReadsNothing None = Unit {0}
ReadsNothing (Some (on_input job)) = ⊥
ReadsNothing (Some (generated number budget)) = Unit {0}

-- what a job leaves of the input: nothing, or what comes after one byte more than the limit; where nothing is read, all
-- of it
abbrev pub left_by : Option Request → List ℕ → List ℕ
left_by None bytes = bytes
left_by (Some (on_input job)) bytes = if nat_lt (2 ^ 24) (length bytes) then drop (2 ^ 24 + 1) bytes else []
left_by (Some (generated number budget)) bytes = bytes

-- what is left of an input whose bytes are known, where nothing failed
abbrev pub LeavesFor : Option Request → Option (List ℕ) → Option (List ℕ) → Status → Type 0
LeavesFor r before now ReadFault = Unit {0}
LeavesFor r before now WriteFault = Unit {0}
LeavesFor r before now NoMemory = Unit {0}
LeavesFor r None now s = Unit {0}
LeavesFor r (Some bytes) now s = now ≡ Some (left_by r bytes)

-- what a run leaves in the source, for the request that its words make
abbrev pub Leaves : List (List ℕ) → Option (List ℕ) → Option (List ℕ) → Status → Type 0
Leaves words before now s = LeavesFor (request_of words) before now s
