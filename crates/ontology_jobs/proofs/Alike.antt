-- What is refused is answered in one way.
use Rattle.std.proofs.Common.{◌≡◌, ◌⊎◌, ℕ, inl, inr, List, [], Option, Some, None, MatchOption}
use Rattle.std.proofs.Common.{ap, sym, ◌∙◌, subst, arith}
use Rattle.ofn_reader.proofs.Unique.{documents_not_refused}
use Rattle.ofn_reader.proofs.OneReason.{document_refusals}
use Rattle.edit_session.specs.Entry.{Entry}
use Rattle.job_inputs.specs.Answer.{Answer}
use Rattle.job_inputs.specs.Asked.{Reply, refused_document}
use Rattle.job_inputs.specs.Questions.{has_element, follows, IsRefusedQuestion}
use Rattle.job_inputs.specs.Replies.{reply_answer}
use Rattle.job_inputs.specs.declared.status.Status.{Status}
use Rattle.job_inputs.specs.declared.status.Status.TheVariants.{Done, Rejected, BadWords, BadText, Outside, Limit}
use Rattle.job_inputs.specs.declared.status.Status.TheVariants.{ReadFault}
use Rattle.job_inputs.specs.declared.status.Status.TheVariants.{WriteFault, Undecided, NoMemory}
use Rattle.job_inputs.proofs.OneReading.{alone_not_refused, alone_refusals, questions_not_refused}
use Rattle.job_inputs.proofs.OneReading.{question_refusals}
use Rattle.ontology_jobs.specs.Words.{Job, check, audit, decide, classify, realize, instances, reasons, session}
use Rattle.ontology_jobs.specs.Words.{pinpoint, evidence, Request, on_input, generated, request_of}
use Rattle.ontology_jobs.specs.Answers.{IsBadWords, AnswersJob, AnswersRequest}
use Rattle.ontology_jobs.specs.Laws.{IsFinal, IsRefusal, IsFaultless, RefusalsAreAnsweredAlike}
use Rattle.ontology_jobs.proofs.Ended.{Ended, too_long, is_refused, is_done, is_undecided, RefusesDocument}
use Rattle.ontology_jobs.proofs.Ended.{RefusesScript, IsReadBy, IsReadDocument, IsReadScript, question_ended}
use Rattle.ontology_jobs.proofs.Ended.{list_ended, evidence_ended, class_ended, types_ended, instances_ended}
use Rattle.ontology_jobs.proofs.Ended.{reasons_ended, session_ended, workload_ended}
use Rattle.ontology_jobs.proofs.Decided.{same_check, same_audit}
use Rattle.ontology_jobs.proofs.Spending.{spends_all}

-- ---- statuses

faultless : (s : Status) → IsRefusal s → IsFaultless s
faultless Done r = absurd r
faultless Rejected r = absurd r
faultless BadWords r = absurd r
faultless BadText r = tt
faultless Outside r = tt
faultless Limit r = tt
faultless ReadFault r = absurd r
faultless WriteFault r = absurd r
faultless Undecided r = absurd r
faultless NoMemory r = absurd r

is_final : (s : Status) → IsRefusal s → IsFinal s
is_final Done r = absurd r
is_final Rejected r = absurd r
is_final BadWords r = absurd r
is_final BadText r = tt
is_final Outside r = tt
is_final Limit r = tt
is_final ReadFault r = absurd r
is_final WriteFault r = absurd r
is_final Undecided r = absurd r
is_final NoMemory r = absurd r

-- ---- two answers

module _ (refused : Reply → Type 0) (read : Type 0) (excluded : (r : Reply) → read → refused r → ⊥)
    (alike : (r q : Reply) → refused r → refused q → r ≡ q) (bytes out text : List ℕ) (s t : Status)
    (log more : List Entry) where
  same : ◌≡◌ {A = Answer} (s, out) (t, text) → (s ≡ t) × (out ≡ text)
  same is = ((λ i. (is i).0), (λ i. (is i).1))

  two_ends : IsRefusal s → Ended refused read bytes out s log → Ended refused read bytes text t more
      → (s ≡ t) × (out ≡ text)
  two_ends r (too_long a) (too_long b) = same (a.answer ∙ sym b.answer)
  two_ends r (too_long a) (is_refused short q why is none) = absurd (omega (arith, short, a.long))
  two_ends r (too_long a) (is_done short so is) = absurd (omega (arith, short, a.long))
  two_ends r (too_long a) (is_undecided short so is) = absurd (omega (arith, short, a.long))
  two_ends r (is_refused short p why is none) (too_long b) = absurd (omega (arith, short, b.long))
  two_ends r (is_refused short p why is none) (is_refused _ q because are _) =
      same (is ∙ ap reply_answer (alike p q why because) ∙ sym are)
  two_ends r (is_refused short p why is none) (is_done _ so _) = absurd (excluded p so why)
  two_ends r (is_refused short p why is none) (is_undecided _ so _) = absurd (excluded p so why)
  two_ends r (is_done short so is) other = absurd (subst IsRefusal is r)
  two_ends r (is_undecided short so is) other = absurd (subst IsRefusal is r)

documents_alike : (bytes : List ℕ) (r q : Reply) → RefusesDocument bytes r → RefusesDocument bytes q → r ≡ q
documents_alike bytes r q (e, why, is) (f, because, are) =
    is ∙ ap refused_document (alone_refusals bytes e f why because) ∙ sym are

scripts_alike : (bytes : List ℕ) (r q : Reply) → RefusesScript bytes r → RefusesScript bytes q → r ≡ q
scripts_alike bytes r q (e, why, is) (f, because, are) =
    is ∙ ap refused_document (document_refusals bytes e f why because) ∙ sym are

-- ---- jobs

-- a verification is not undecided
checked_final : (query bytes out : List ℕ) (t : Status) (log : List Entry) → IsFaultless t
    → AnswersJob (check query) bytes out t log → IsFinal t
checked_final query bytes out Done log known answer = tt
checked_final query bytes out Rejected log known answer = tt
checked_final query bytes out BadWords log known answer = tt
checked_final query bytes out BadText log known answer = tt
checked_final query bytes out Outside log known answer = tt
checked_final query bytes out Limit log known answer = tt
checked_final query bytes out ReadFault log known answer = absurd known
checked_final query bytes out WriteFault log known answer = absurd known
checked_final query bytes out Undecided log known answer = spends_all (on_input (check query)) bytes out log answer
checked_final query bytes out NoMemory log known answer = absurd known

-- nor is an audit
audited_final : (query bytes out : List ℕ) (t : Status) (log : List Entry) → IsFaultless t
    → AnswersJob (audit query) bytes out t log → IsFinal t
audited_final query bytes out Done log known answer = tt
audited_final query bytes out Rejected log known answer = tt
audited_final query bytes out BadWords log known answer = tt
audited_final query bytes out BadText log known answer = tt
audited_final query bytes out Outside log known answer = tt
audited_final query bytes out Limit log known answer = tt
audited_final query bytes out ReadFault log known answer = absurd known
audited_final query bytes out WriteFault log known answer = absurd known
audited_final query bytes out Undecided log known answer = spends_all (on_input (audit query)) bytes out log answer
audited_final query bytes out NoMemory log known answer = absurd known

by_job_alike : (job : Job) (bytes out text : List ℕ) (s t : Status) (log more : List Entry) → IsRefusal s
    → IsFaultless t → AnswersJob job bytes out s log → AnswersJob job bytes text t more → (s ≡ t) × (out ≡ text)
by_job_alike (check query) bytes out text s t log more r known a b =
    same_check query bytes out text s t log more (is_final s r) (checked_final query bytes text t more known b) a b
by_job_alike (audit query) bytes out text s t log more r known a b =
    same_audit query bytes out text s t log more (is_final s r) (audited_final query bytes text t more known b) a b
by_job_alike (decide question budget) bytes out text s t log more r known a b =
    two_ends (IsRefusedQuestion question bytes) (IsReadBy question bytes)
    (λ p so why. questions_not_refused question bytes so.0 so.1 p so.2 why) (question_refusals question bytes) bytes out
    text s t log more r
    (question_ended question budget bytes out s log (faultless s r) a)
    (question_ended question budget bytes text t more known b)
by_job_alike (classify budget) bytes out text s t log more r known a b =
    two_ends (RefusesDocument bytes) (IsReadDocument bytes)
    (λ p so why. alone_not_refused bytes so.0 so.1 why.0 so.2 why.1) (documents_alike bytes) bytes out text s t log more
    r
    (class_ended budget bytes out s log (faultless s r) a) (class_ended budget bytes text t more known b)
by_job_alike (realize budget) bytes out text s t log more r known a b =
    two_ends (RefusesDocument bytes) (IsReadDocument bytes)
    (λ p so why. alone_not_refused bytes so.0 so.1 why.0 so.2 why.1) (documents_alike bytes) bytes out text s t log more
    r
    (types_ended budget bytes out s log (faultless s r) a) (types_ended budget bytes text t more known b)
by_job_alike (instances class budget) bytes out text s t log more r known a b =
    two_ends (IsRefusedQuestion (has_element class) bytes) (IsReadBy (has_element class) bytes)
    (λ p so why. questions_not_refused (has_element class) bytes so.0 so.1 p so.2 why)
    (question_refusals (has_element class) bytes) bytes out text s t log
    more r (instances_ended class budget bytes out s log (faultless s r) a)
    (instances_ended class budget bytes text t more known b)
by_job_alike (reasons class budget) bytes out text s t log more r known a b =
    two_ends (IsRefusedQuestion (has_element class) bytes) (IsReadBy (has_element class) bytes)
    (λ p so because. questions_not_refused (has_element class) bytes so.0 so.1 p so.2 because)
    (question_refusals (has_element class) bytes) bytes out text s t
    log more r (reasons_ended class budget bytes out s log (faultless s r) a)
    (reasons_ended class budget bytes text t more known b)
by_job_alike (session budget) bytes out text s t log more r known a b =
    two_ends (RefusesScript bytes) (IsReadScript bytes)
    (λ p so because. documents_not_refused bytes so.0 so.1 so.2 because.0 so.3 because.1) (scripts_alike bytes) bytes
    out text s t log more r
    (session_ended budget bytes out s log (faultless s r) a) (session_ended budget bytes text t more known b)
by_job_alike (pinpoint w statement budget) bytes out text s t log more r known a b =
    two_ends (IsRefusedQuestion (follows statement) bytes) (IsReadBy (follows statement) bytes)
    (λ p so why. questions_not_refused (follows statement) bytes so.0 so.1 p so.2 why)
    (question_refusals (follows statement) bytes) bytes out text s t log
    more r (list_ended w statement budget bytes out s log (faultless s r) a)
    (list_ended w statement budget bytes text t more known b)
by_job_alike (evidence statement budget) bytes out text s t log more r known a b =
    two_ends (IsRefusedQuestion (follows statement) bytes) (IsReadBy (follows statement) bytes)
    (λ p so why. questions_not_refused (follows statement) bytes so.0 so.1 p so.2 why)
    (question_refusals (follows statement) bytes) bytes out text s t log
    more r (evidence_ended statement budget bytes out s log (faultless s r) a)
    (evidence_ended statement budget bytes text t more known b)

no_refused_workload : (number budget : ℕ) (out : List ℕ) (s : Status) (log : List Entry) → IsRefusal s
    → (s ≡ Done) ⊎ (s ≡ Undecided) → ⊥
no_refused_workload number budget out s log r (inl is) = subst IsRefusal is r
no_refused_workload number budget out s log r (inr is) = subst IsRefusal is r

pub answered_alike : RefusalsAreAnsweredAlike
answered_alike words bytes out text s t log more r known a b = by (request_of words) a b
  where
    by : (x : Option Request) → MatchOption x (IsBadWords out s log) (λ y. AnswersRequest y bytes out s log)
        → MatchOption x (IsBadWords text t more) (λ y. AnswersRequest y bytes text t more) → (s ≡ t) × (out ≡ text)
    by None p q = (p.status ∙ sym q.status, p.text ∙ sym q.text)
    by (Some (on_input job)) p q = by_job_alike job bytes out text s t log more r known p q
    by (Some (generated number budget)) p q =
        absurd
        (no_refused_workload number budget out s log r (workload_ended number budget out s log (faultless s r) p))
