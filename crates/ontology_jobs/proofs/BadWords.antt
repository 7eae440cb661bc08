-- Bad words are answered to the words of no job alone.
use Rattle.std.proofs.Common.{◌≡◌, ℕ, List, [], Option, Some, None, MatchOption, inl, inr, refl, ap}
use Rattle.edit_session.specs.Entry.{Entry}
use Rattle.job_inputs.specs.Answer.{Answer}
use Rattle.job_inputs.specs.Asked.{Reply}
use Rattle.job_inputs.specs.declared.status.Status.TheVariants.{BadWords, Limit}
use Rattle.ontology_jobs.specs.Words.{Job, check, audit, decide, classify, realize, instances, reasons, session}
use Rattle.ontology_jobs.specs.Words.{pinpoint, evidence, Request, on_input, generated, request_of}
use Rattle.ontology_jobs.specs.Answers.{IsTooLong, IsBadWords, AnswersJob, AnswersRequest, AnswersAll}
use Rattle.ontology_jobs.specs.Laws.{AsksForNothing, BadWordsAskForNothing}
use Rattle.ontology_jobs.proofs.Said.{not_said, not_audited}
use Rattle.ontology_jobs.proofs.Ended.{Ended, too_long, is_refused, is_done, is_undecided, question_ended, list_ended}
use Rattle.ontology_jobs.proofs.Ended.{evidence_ended, class_ended, types_ended, instances_ended, reasons_ended}
use Rattle.ontology_jobs.proofs.Ended.{session_ended, workload_ended}

no_limit : (bytes out : List ℕ) (log : List Entry) → IsTooLong bytes out BadWords log → ⊥
no_limit bytes out log long = let clash : BadWords ≡ Limit = ap (λ (a : Answer). a.0) long.answer in absurd (cc clash)

no_end : (refused : Reply → Type 0) (read : Type 0) (bytes out : List ℕ) (log : List Entry)
    → Ended refused read bytes out BadWords log → ⊥
no_end refused read bytes out log (too_long long) = no_limit bytes out log long
no_end refused read bytes out log (is_refused short r why is none) = not_said BadWords refl r out is
no_end refused read bytes out log (is_done short so is) = absurd (cc is)
no_end refused read bytes out log (is_undecided short so is) = absurd (cc is)

no_job : (job : Job) (bytes out : List ℕ) (log : List Entry) → AnswersJob job bytes out BadWords log → ⊥
no_job (check query) bytes out log (inl long) = no_limit bytes out log long
no_job (check query) bytes out log (inr (short, ((r, says, is), none))) = not_said BadWords refl r out is
no_job (audit query) bytes out log (inl long) = no_limit bytes out log long
no_job (audit query) bytes out log (inr (short, ((end, says, is), none))) = not_audited BadWords refl end out is
no_job (decide question budget) bytes out log answer =
    no_end _ _ bytes out log (question_ended question budget bytes out BadWords log tt answer)
no_job (classify budget) bytes out log answer =
    no_end _ _ bytes out log (class_ended budget bytes out BadWords log tt answer)
no_job (realize budget) bytes out log answer =
    no_end _ _ bytes out log (types_ended budget bytes out BadWords log tt answer)
no_job (instances class budget) bytes out log answer =
    no_end _ _ bytes out log (instances_ended class budget bytes out BadWords log tt answer)
no_job (reasons class budget) bytes out log answer =
    no_end _ _ bytes out log (reasons_ended class budget bytes out BadWords log tt answer)
no_job (session budget) bytes out log answer =
    no_end _ _ bytes out log (session_ended budget bytes out BadWords log tt answer)
no_job (pinpoint w statement budget) bytes out log answer =
    no_end _ _ bytes out log (list_ended w statement budget bytes out BadWords log tt answer)
no_job (evidence statement budget) bytes out log answer =
    no_end _ _ bytes out log (evidence_ended statement budget bytes out BadWords log tt answer)

no_workload : (number budget : ℕ) (bytes out : List ℕ) (log : List Entry)
    → AnswersRequest (generated number budget) bytes out BadWords log → ⊥
no_workload number budget bytes out log answer =
    elim (workload_ended number budget out BadWords log tt answer) [ inl is ↦ absurd (cc is) | inr is ↦ absurd (cc is) ]

pub ask_for_nothing : BadWordsAskForNothing
ask_for_nothing words bytes out log answer = by (request_of words) refl answer
  where
    by : (r : Option Request) → request_of words ≡ r
        → MatchOption r (IsBadWords out BadWords log) (λ x. AnswersRequest x bytes out BadWords log)
        → AsksForNothing words log
    by None is bad = record { no_request = is; unlogged = bad.unlogged }
    by (Some (on_input job)) is so = absurd (no_job job bytes out log so)
    by (Some (generated number budget)) is so = absurd (no_workload number budget bytes out log so)

pub all_ask_for_nothing : (held : Option (List ℕ)) (words : List (List ℕ)) (out : List ℕ) (log : List Entry)
    → AnswersAll held words out BadWords log → AsksForNothing words log
all_ask_for_nothing held words out log (bytes, all, answer) = ask_for_nothing words bytes out log answer
