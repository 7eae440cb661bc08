-- How the answers of jobs end: as a refusal, or done or undecided with what holds then.
use Rattle.std.proofs.Common.{◌≡◌, ℕ, ◌≤◌, ◌^◌, ◌⊎◌, inl, inr, List, [], length, Bool, true, false}
use Rattle.std.proofs.Common.{refl, ◌∙◌}
use Rattle.shq_terms.specs.Listed.{Listed}
use Rattle.shq_terms.specs.declared.axioms.Query.{Query as Asked}
use Rattle.ofn_reader.specs.DocumentContext.{DocumentContext}
use Rattle.ofn_expressions.specs.declared.refusal.Refusal.{Refusal}
use Rattle.edit_session.specs.Entry.{Entry}
use Rattle.audit_jobs.specs.Answer.{Answer as Decision}
use Rattle.audit_jobs.specs.Answer.TheVariants as Answered
use Rattle.audit_jobs.specs.Decisions.{decision_status, IsDecisionTold, AnswersQuestion}
use Rattle.job_inputs.specs.Answer.{Answer}
use Rattle.job_inputs.specs.Asked.{Reply, refused_document}
use Rattle.classification_jobs.specs.Classifications.{AnswersClassification}
use Rattle.job_inputs.specs.Questions.{Text, has_element, follows, IsDocumentAlone, IsNotAlone, IsQuestion}
use Rattle.job_inputs.specs.Questions.{IsRefusedQuestion}
use Rattle.job_inputs.specs.Refusals.{IsRefusedDocument, IsRefused, HasBegun}
use Rattle.job_inputs.specs.Replies.{reply_answer}
use Rattle.job_inputs.specs.declared.status.Status.{Status}
use Rattle.job_inputs.specs.declared.status.Status.TheVariants.{Done, Rejected, BadWords, BadText, Outside, Limit}
use Rattle.job_inputs.specs.declared.status.Status.TheVariants.{ReadFault}
use Rattle.job_inputs.specs.declared.status.Status.TheVariants.{WriteFault, Undecided, NoMemory}
use Rattle.audit_jobs.specs.Answers.{IsEvidenced}
use Rattle.audit_jobs.specs.Witnessed.{IsUnspentLog}
use Rattle.pinpointing_jobs.specs.Answers.{IsPinpointed, IsMeasured, AnswersWorkload}
use Rattle.edit_session.specs.HonestLog.{IsPinpointingLog}
use Rattle.pinpointing_jobs.specs.Memory.{UnlessNoMemory}
use Rattle.pinpointing_jobs.specs.Listings.{end_status}
use Rattle.pinpointing_jobs.specs.declared.wanted.Wanted.{Wanted}
use Rattle.ofn_reader.specs.Documents.{IsDocument, IsNoDocument}
use Rattle.individual_jobs.specs.Answers.{AnswersWhy}
use Rattle.individual_jobs.specs.Realizations.{AnswersInstances, AnswersRealization}
use Rattle.edit_session.specs.Answers.{AnswersSession, IsRefusedScript}
use Rattle.ontology_jobs.specs.Words.{Job, decide, classify, realize, instances, reasons, session, pinpoint}
use Rattle.ontology_jobs.specs.Words.{evidence}
use Rattle.ontology_jobs.specs.Answers.{IsTooLong, AnswersRead, AnswersJob}
use Rattle.ontology_jobs.specs.Laws.{IsFaultless}

-- the answer of a job whose input is too long, or refused for a reply, or read
pub data Ended (refused : Reply → Type 0) (read : Type 0) (bytes out : List ℕ) (s : Status) (log : List Entry) :
    Type 0 where
  too_long : IsTooLong bytes out s log → Ended refused read bytes out s log
  is_refused : length bytes ≤ 2 ^ 24 → (r : Reply) → refused r → ◌≡◌ {A = Answer} (s, out) (reply_answer r) → log ≡ []
      → Ended refused read bytes out s log
  is_done : length bytes ≤ 2 ^ 24 → read → s ≡ Done → Ended refused read bytes out s log
  is_undecided : length bytes ≤ 2 ^ 24 → read → s ≡ Undecided → Ended refused read bytes out s log

-- a document alone that is refused
abbrev pub RefusesDocument : List ℕ → Reply → Type 0
RefusesDocument bytes r = (e : Refusal) × IsNotAlone bytes e × (r ≡ refused_document e)

-- ---- an input, by what the job does on it

pub by_job : (job : Job) (bytes out : List ℕ) (s : Status) (log : List Entry) → IsFaultless s
    → AnswersJob job bytes out s log
    → IsTooLong bytes out s log ⊎ ((length bytes ≤ 2 ^ 24) × AnswersRead job bytes out s log)
by_job job bytes out Done log known answer = answer
by_job job bytes out Rejected log known answer = answer
by_job job bytes out BadWords log known answer = answer
by_job job bytes out BadText log known answer = answer
by_job job bytes out Outside log known answer = answer
by_job job bytes out Limit log known answer = answer
by_job job bytes out ReadFault log known answer = absurd known
by_job job bytes out WriteFault log known answer = absurd known
by_job job bytes out Undecided log known answer = answer
by_job job bytes out NoMemory log known answer = absurd known

-- ---- questions

by_decision : (question : Text) (budget : ℕ) (bytes out : List ℕ) (s : Status) (log : List Entry) → IsFaultless s
    → AnswersQuestion question budget bytes out s log
    → IsRefused question bytes out s log ⊎ IsDecisionTold question budget bytes out s log
by_decision question budget bytes out Done log known answer = answer
by_decision question budget bytes out Rejected log known answer = answer
by_decision question budget bytes out BadWords log known answer = answer
by_decision question budget bytes out BadText log known answer = answer
by_decision question budget bytes out Outside log known answer = answer
by_decision question budget bytes out Limit log known answer = answer
by_decision question budget bytes out ReadFault log known answer = absurd known
by_decision question budget bytes out WriteFault log known answer = absurd known
by_decision question budget bytes out Undecided log known answer = answer
by_decision question budget bytes out NoMemory log known answer = absurd known

decision_ends : (d : Decision) → (decision_status d ≡ Done) ⊎ (decision_status d ≡ Undecided)
decision_ends (Answered.Entailed r) = inl refl
decision_ends (Answered.NotEntailed m) = inl refl
decision_ends Answered.Undecided = inr refl

-- the question of an answer is read
abbrev pub IsReadBy : Text → List ℕ → Type 0
IsReadBy question bytes = (o : Listed) × (q : Asked) × IsQuestion question bytes o q

pub question_ended : (question : Text) (budget : ℕ) (bytes out : List ℕ) (s : Status) (log : List Entry) → IsFaultless s
    → AnswersJob (decide question budget) bytes out s log
    → Ended (IsRefusedQuestion question bytes) (IsReadBy question bytes) bytes out s log
question_ended question budget bytes out s log known answer =
    elim (by_job (decide question budget) bytes out s log known answer) [
      | inl long ↦ too_long long
      | inr read ↦
          elim (by_decision question budget bytes out s log known read.1) [
            | inl r ↦ is_refused read.0 r.reply r.refused r.answer r.unlogged
            | inr d ↦
                elim (decision_ends d.decision) [
                  | inl done ↦ is_done read.0 (d.ontology, d.query, d.is_question) (d.status ∙ done)
                  | inr spent ↦ is_undecided read.0 (d.ontology, d.query, d.is_question) (d.status ∙ spent)
                ]
          ]
    ]

-- ---- lists

by_begun : (out : List ℕ) (s : Status) (begun fact : Type 0) → IsFaultless s → UnlessNoMemory s out begun fact → fact
by_begun out Done begun fact known answer = answer
by_begun out Rejected begun fact known answer = answer
by_begun out BadWords begun fact known answer = answer
by_begun out BadText begun fact known answer = answer
by_begun out Outside begun fact known answer = answer
by_begun out Limit begun fact known answer = answer
by_begun out ReadFault begun fact known answer = absurd known
by_begun out WriteFault begun fact known answer = absurd known
by_begun out Undecided begun fact known answer = answer
by_begun out NoMemory begun fact known answer = absurd known

finished_ends : (b : Bool) → (end_status b ≡ Done) ⊎ (end_status b ≡ Undecided)
finished_ends true = inl refl
finished_ends false = inr refl

pub list_ended : (w : Wanted) (statement : List ℕ) (budget : ℕ) (bytes out : List ℕ) (s : Status) (log : List Entry)
    → IsFaultless s → AnswersJob (pinpoint w statement budget) bytes out s log
    → Ended (IsRefusedQuestion (follows statement) bytes) (IsReadBy (follows statement) bytes) bytes out s log
list_ended w statement budget bytes out s log known answer =
    elim (by_job (pinpoint w statement budget) bytes out s log known answer) [
      | inl long ↦ too_long long
      | inr read ↦
          elim (by_begun out s (HasBegun (follows statement) bytes log (λ o q. IsPinpointingLog o q budget log))
          (IsRefused (follows statement) bytes out s log ⊎ IsPinpointed w statement budget bytes out s log) known
          read.1) [
            | inl r ↦ is_refused read.0 r.reply r.refused r.answer r.unlogged
            | inr p ↦
                elim (finished_ends p.listed.finished) [
                  | inl done ↦ is_done read.0 (p.ontology, p.query, p.is_question) (p.listed.status ∙ done)
                  | inr spent ↦ is_undecided read.0 (p.ontology, p.query, p.is_question) (p.listed.status ∙ spent)
                ]
          ]
    ]

pub evidence_ended : (statement : List ℕ) (budget : ℕ) (bytes out : List ℕ) (s : Status) (log : List Entry)
    → IsFaultless s → AnswersJob (evidence statement budget) bytes out s log
    → Ended (IsRefusedQuestion (follows statement) bytes) (IsReadBy (follows statement) bytes) bytes out s log
evidence_ended statement budget bytes out s log known answer =
    elim (by_job (evidence statement budget) bytes out s log known answer) [
      | inl long ↦ too_long long
      | inr read ↦
          elim (by_begun out s (HasBegun (follows statement) bytes log (λ o q. IsUnspentLog o q budget log))
          (IsRefused (follows statement) bytes out s log ⊎ IsEvidenced statement budget bytes out s log) known read.1) [
            | inl r ↦ is_refused read.0 r.reply r.refused r.answer r.unlogged
            | inr e ↦
                elim (finished_ends e.answer.finished) [
                  | inl done ↦ is_done read.0 (e.ontology, e.query, e.is_question) (e.answer.written.status ∙ done)
                  | inr spent ↦
                      is_undecided read.0 (e.ontology, e.query, e.is_question) (e.answer.written.status ∙ spent)
                ]
          ]
    ]

-- ---- classifications

abbrev pub IsReadDocument : List ℕ → Type 0
IsReadDocument bytes = (o : Listed) × (kept : DocumentContext) × IsDocumentAlone bytes o kept

refused_alone : (bytes out : List ℕ) (s : Status) (log : List Entry) → length bytes ≤ 2 ^ 24
    → IsRefusedDocument bytes out s log → Ended (RefusesDocument bytes) (IsReadDocument bytes) bytes out s log
refused_alone bytes out s log short r =
    is_refused short (refused_document r.refusal) (r.refusal, r.refused, refl) r.answer r.unlogged

classified : (budget : ℕ) (bytes out : List ℕ) (s : Status) (log : List Entry) → IsFaultless s → length bytes ≤ 2 ^ 24
    → AnswersClassification budget bytes out s log
    → Ended (RefusesDocument bytes) (IsReadDocument bytes) bytes out s log
classified budget bytes out Done log known short on = is_done short (on.ontology, on.kept, on.is_document) refl
classified budget bytes out Undecided log known short on =
    is_undecided short (on.ontology, on.kept, on.is_document) refl
classified budget bytes out Rejected log known short r = refused_alone bytes out Rejected log short r
classified budget bytes out BadWords log known short r = refused_alone bytes out BadWords log short r
classified budget bytes out BadText log known short r = refused_alone bytes out BadText log short r
classified budget bytes out Outside log known short r = refused_alone bytes out Outside log short r
classified budget bytes out Limit log known short r = refused_alone bytes out Limit log short r
classified budget bytes out ReadFault log known short r = absurd known
classified budget bytes out WriteFault log known short r = absurd known
classified budget bytes out NoMemory log known short r = absurd known

pub class_ended : (budget : ℕ) (bytes out : List ℕ) (s : Status) (log : List Entry) → IsFaultless s
    → AnswersJob (classify budget) bytes out s log
    → Ended (RefusesDocument bytes) (IsReadDocument bytes) bytes out s log
class_ended budget bytes out s log known answer =
    elim (by_job (classify budget) bytes out s log known answer) [
      | inl long ↦ too_long long
      | inr read ↦ classified budget bytes out s log known read.0 read.1
    ]

-- ---- realizations

realized : (budget : ℕ) (bytes out : List ℕ) (s : Status) (log : List Entry) → IsFaultless s → length bytes ≤ 2 ^ 24
    → AnswersRealization budget bytes out s log → Ended (RefusesDocument bytes) (IsReadDocument bytes) bytes out s log
realized budget bytes out Done log known short on = is_done short (on.ontology, on.kept, on.is_document) refl
realized budget bytes out Undecided log known short on = is_undecided short (on.ontology, on.kept, on.is_document) refl
realized budget bytes out BadText log known short r = refused_alone bytes out BadText log short r
realized budget bytes out Outside log known short r = refused_alone bytes out Outside log short r
realized budget bytes out Limit log known short r = refused_alone bytes out Limit log short r
realized budget bytes out Rejected log known short r = absurd r
realized budget bytes out BadWords log known short r = absurd r
realized budget bytes out ReadFault log known short r = absurd known
realized budget bytes out WriteFault log known short r = absurd known
realized budget bytes out NoMemory log known short r = absurd known

pub types_ended : (budget : ℕ) (bytes out : List ℕ) (s : Status) (log : List Entry) → IsFaultless s
    → AnswersJob (realize budget) bytes out s log → Ended (RefusesDocument bytes) (IsReadDocument bytes) bytes out s log
types_ended budget bytes out s log known answer =
    elim (by_job (realize budget) bytes out s log known answer) [
      | inl long ↦ too_long long
      | inr read ↦ realized budget bytes out s log known read.0 read.1
    ]

-- ---- the instances of a class, and why

refused_class : (class bytes out : List ℕ) (s : Status) (log : List Entry) → length bytes ≤ 2 ^ 24
    → IsRefused (has_element class) bytes out s log
    → Ended (IsRefusedQuestion (has_element class) bytes) (IsReadBy (has_element class) bytes) bytes out s log
refused_class class bytes out s log short r = is_refused short r.reply r.refused r.answer r.unlogged

found : (class : List ℕ) (budget : ℕ) (bytes out : List ℕ) (s : Status) (log : List Entry) → IsFaultless s
    → length bytes ≤ 2 ^ 24 → AnswersInstances class budget bytes out s log
    → Ended (IsRefusedQuestion (has_element class) bytes) (IsReadBy (has_element class) bytes) bytes out s log
found class budget bytes out Done log known short on = is_done short (on.ontology, on.query, on.is_question) refl
found class budget bytes out Undecided log known short on =
    is_undecided short (on.ontology, on.query, on.is_question) refl
found class budget bytes out BadText log known short r = refused_class class bytes out BadText log short r
found class budget bytes out Outside log known short r = refused_class class bytes out Outside log short r
found class budget bytes out Limit log known short r = refused_class class bytes out Limit log short r
found class budget bytes out Rejected log known short r = absurd r
found class budget bytes out BadWords log known short r = absurd r
found class budget bytes out ReadFault log known short r = absurd known
found class budget bytes out WriteFault log known short r = absurd known
found class budget bytes out NoMemory log known short r = absurd known

pub instances_ended : (class : List ℕ) (budget : ℕ) (bytes out : List ℕ) (s : Status) (log : List Entry) → IsFaultless s
    → AnswersJob (instances class budget) bytes out s log
    → Ended (IsRefusedQuestion (has_element class) bytes) (IsReadBy (has_element class) bytes) bytes out s log
instances_ended class budget bytes out s log known answer =
    elim (by_job (instances class budget) bytes out s log known answer) [
      | inl long ↦ too_long long
      | inr read ↦ found class budget bytes out s log known read.0 read.1
    ]

reasoned : (class : List ℕ) (budget : ℕ) (bytes out : List ℕ) (s : Status) (log : List Entry) → IsFaultless s
    → length bytes ≤ 2 ^ 24 → AnswersWhy class budget bytes out s log
    → Ended (IsRefusedQuestion (has_element class) bytes) (IsReadBy (has_element class) bytes) bytes out s log
reasoned class budget bytes out Done log known short on = is_done short (on.ontology, on.query, on.is_question) refl
reasoned class budget bytes out Undecided log known short on =
    is_undecided short (on.ontology, on.query, on.is_question) refl
reasoned class budget bytes out BadText log known short r = refused_class class bytes out BadText log short r
reasoned class budget bytes out Outside log known short r = refused_class class bytes out Outside log short r
reasoned class budget bytes out Limit log known short r = refused_class class bytes out Limit log short r
reasoned class budget bytes out Rejected log known short r = absurd r
reasoned class budget bytes out BadWords log known short r = absurd r
reasoned class budget bytes out ReadFault log known short r = absurd known
reasoned class budget bytes out WriteFault log known short r = absurd known
reasoned class budget bytes out NoMemory log known short r = absurd known

pub reasons_ended : (class : List ℕ) (budget : ℕ) (bytes out : List ℕ) (s : Status) (log : List Entry) → IsFaultless s
    → AnswersJob (reasons class budget) bytes out s log
    → Ended (IsRefusedQuestion (has_element class) bytes) (IsReadBy (has_element class) bytes) bytes out s log
reasons_ended class budget bytes out s log known answer =
    elim (by_job (reasons class budget) bytes out s log known answer) [
      | inl long ↦ too_long long
      | inr read ↦ reasoned class budget bytes out s log known read.0 read.1
    ]

-- ---- sessions

-- a document with a script behind it that is refused
abbrev pub RefusesScript : List ℕ → Reply → Type 0
RefusesScript bytes r = (e : Refusal) × IsNoDocument bytes e × (r ≡ refused_document e)

abbrev pub IsReadScript : List ℕ → Type 0
IsReadScript bytes = (o : Listed) × (kept : DocumentContext) × (end : ℕ) × IsDocument bytes o kept end

refused_script : (bytes out : List ℕ) (s : Status) (log : List Entry) → length bytes ≤ 2 ^ 24
    → IsRefusedScript bytes out s log → Ended (RefusesScript bytes) (IsReadScript bytes) bytes out s log
refused_script bytes out s log short r =
    is_refused short (refused_document r.refusal) (r.refusal, r.refused, refl) r.answer r.unlogged

told : (budget : ℕ) (bytes out : List ℕ) (s : Status) (log : List Entry) → IsFaultless s → length bytes ≤ 2 ^ 24
    → AnswersSession budget bytes out s log → Ended (RefusesScript bytes) (IsReadScript bytes) bytes out s log
told budget bytes out Done log known short on = is_done short (on.ontology, on.kept, on.end, on.is_document) refl
told budget bytes out Undecided log known short on =
    is_undecided short (on.ontology, on.kept, on.end, on.is_document) refl
told budget bytes out BadText log known short r = refused_script bytes out BadText log short r
told budget bytes out Outside log known short r = refused_script bytes out Outside log short r
told budget bytes out Limit log known short r = refused_script bytes out Limit log short r
told budget bytes out Rejected log known short r = absurd r
told budget bytes out BadWords log known short r = absurd r
told budget bytes out ReadFault log known short r = absurd known
told budget bytes out WriteFault log known short r = absurd known
told budget bytes out NoMemory log known short r = absurd known

pub session_ended : (budget : ℕ) (bytes out : List ℕ) (s : Status) (log : List Entry) → IsFaultless s
    → AnswersJob (session budget) bytes out s log → Ended (RefusesScript bytes) (IsReadScript bytes) bytes out s log
session_ended budget bytes out s log known answer =
    elim (by_job (session budget) bytes out s log known answer) [
      | inl long ↦ too_long long
      | inr read ↦ told budget bytes out s log known read.0 read.1
    ]

-- ---- workloads

pub workload_ended : (number budget : ℕ) (out : List ℕ) (s : Status) (log : List Entry) → IsFaultless s
    → AnswersWorkload number budget out s log → (s ≡ Done) ⊎ (s ≡ Undecided)
workload_ended number budget out s log known answer = by s known answer
  where
    of : (s : Status) → IsMeasured number budget out s log → (s ≡ Done) ⊎ (s ≡ Undecided)
    of s m = elim (finished_ends m.counted.finished)
        [ inl done ↦ inl (m.counted.status ∙ done) | inr spent ↦ inr (m.counted.status ∙ spent) ]

    by : (s : Status) → IsFaultless s → AnswersWorkload number budget out s log → (s ≡ Done) ⊎ (s ≡ Undecided)
    by Done known m = of Done m
    by Rejected known m = of Rejected m
    by BadWords known m = of BadWords m
    by BadText known m = of BadText m
    by Outside known m = of Outside m
    by Limit known m = of Limit m
    by ReadFault known m = absurd known
    by WriteFault known m = absurd known
    by Undecided known m = of Undecided m
    by NoMemory known m = absurd known
