-- What is done was not refused.
use Rattle.std.proofs.Common.{◌≡◌, ℕ, Bool, List, false, true, refl, ap, sym, ◌∙◌, inl, inr}
use Rattle.audit_jobs.specs.Answers.{IsEvidenced}
use Rattle.audit_jobs.specs.Decisions.{IsDecisionTold}
use Rattle.pinpointing_jobs.specs.Listings.{end_status}
use Rattle.pinpointing_jobs.specs.Answers.{IsPinpointed}
use Rattle.pinpointing_jobs.specs.declared.wanted.Wanted.{Wanted}
use Rattle.job_inputs.specs.Answer.{Answer, IsAnswer}
use Rattle.job_inputs.specs.Asked.{Reply}
use Rattle.job_inputs.specs.Complaints.{complaint}
use Rattle.job_inputs.specs.declared.complaint.Place.TheVariants as P
use Rattle.job_inputs.specs.Questions.{Text, follows, IsRefusedQuestion, document, query}
use Rattle.job_inputs.specs.Replies.{reply_answer}
use Rattle.job_inputs.specs.declared.status.Status.{Status}
use Rattle.job_inputs.specs.declared.status.Status.TheVariants.{Done}
use Rattle.job_inputs.proofs.Ends.{is_refusal, complaint_refuses}
use Rattle.edit_session.specs.Entry.{Entry}
use Rattle.ontology_jobs.specs.Answers.{IsTooLong, AnswersJob}
use Rattle.ontology_jobs.specs.Words.{decide, pinpoint, evidence}

-- a status of no refusal is not that of a refused question
pub never_refused : (question : Text) (bytes out : List ℕ) (s : Status) → is_refusal s ≡ false → (r : Reply)
    → IsRefusedQuestion question bytes r → IsAnswer (reply_answer r) out s → ⊥
never_refused question bytes out s other _ (document e why) is =
    let clash : false ≡ true =
    sym other ∙ ap (λ (a : Answer). is_refusal a.0) is ∙ complaint_refuses P.Document (complaint e) in
    absurd (cc clash)
never_refused question bytes out s other _ (query o kept e alone why) is =
    let clash : false ≡ true =
    sym other ∙ ap (λ (a : Answer). is_refusal a.0) is ∙ complaint_refuses P.Query (complaint e) in
    absurd (cc clash)

-- an input that is too long is not done, nor undecided
pub never_long : (bytes out : List ℕ) (log : List Entry) (s : Status) → is_refusal s ≡ false
    → IsTooLong bytes out s log → ⊥
never_long bytes out log s other long =
    let clash : false ≡ true = sym other ∙ ap (λ (a : Answer). is_refusal a.0) long.answer in absurd (cc clash)

-- ---- what was read and answered

pub decided : (question : Text) (budget : ℕ) (bytes out : List ℕ) (log : List Entry)
    → AnswersJob (decide question budget) bytes out Done log → IsDecisionTold question budget bytes out Done log
decided question budget bytes out log (inl long) = absurd (never_long bytes out log Done refl long)
decided question budget bytes out log (inr (short, inl refused)) =
    absurd (never_refused question bytes out Done refl refused.reply refused.refused refused.answer)
decided question budget bytes out log (inr (short, inr told)) = told

pub listed : (wanted : Wanted) (statement : List ℕ) (budget : ℕ) (bytes out : List ℕ) (log : List Entry)
    → AnswersJob (pinpoint wanted statement budget) bytes out Done log
    → IsPinpointed wanted statement budget bytes out Done log
listed wanted statement budget bytes out log (inl long) = absurd (never_long bytes out log Done refl long)
listed wanted statement budget bytes out log (inr (short, inl refused)) =
    absurd (never_refused (follows statement) bytes out Done refl refused.reply refused.refused refused.answer)
listed wanted statement budget bytes out log (inr (short, inr is)) = is

pub evidenced : (statement : List ℕ) (budget : ℕ) (bytes out : List ℕ) (log : List Entry)
    → AnswersJob (evidence statement budget) bytes out Done log → IsEvidenced statement budget bytes out Done log
evidenced statement budget bytes out log (inl long) = absurd (never_long bytes out log Done refl long)
evidenced statement budget bytes out log (inr (short, inl refused)) =
    absurd (never_refused (follows statement) bytes out Done refl refused.reply refused.refused refused.answer)
evidenced statement budget bytes out log (inr (short, inr is)) = is

-- and a search that is done is finished
pub done_is_finished : (b : Bool) → Done ≡ end_status b → b ≡ true
done_is_finished true is = refl
done_is_finished false is = absurd (cc is)
