-- An undecided answer has spent the whole budget.
use Rattle.std.proofs.Common.{◌≡◌, ℕ, inl, inr, List, [], ◌∷◌, Bool, true, false, Option, Some, None, MatchOption}
use Rattle.std.proofs.Common.{◌||◌, refl, ap, ◌∙◌, subst}
use Rattle.std.specs.List.{list_any}
use Rattle.std.proofs.Math.Bool.{or-true}
use Rattle.std.proofs.lemmas.List.Folds.{list_any-append}
use Rattle.shq_terms.specs.Listed.{Listed}
use Rattle.shq_terms.specs.declared.axioms.Query.{Query as Asked}
use Rattle.edit_session.specs.Entry.{Entry}
use Rattle.edit_session.specs.Entry.TheVariants.{Test}
use Rattle.edit_session.specs.TestEnd.{TestEnd}
use Rattle.edit_session.specs.TestEnd.TheVariants as E
use Rattle.edit_session.specs.Entries.{spent_of, is_spent, ended_spent}
use Rattle.audit_jobs.specs.Answer.{Answer as Decision}
use Rattle.audit_jobs.specs.Answer.TheVariants as Answered
use Rattle.audit_jobs.specs.Decided.{Matches}
use Rattle.job_inputs.specs.Answer.{Answer}
use Rattle.job_inputs.specs.declared.status.Status.{Status}
use Rattle.job_inputs.specs.declared.status.Status.TheVariants.{Undecided}
use Rattle.job_inputs.specs.Questions.{Text, follows}
use Rattle.job_inputs.specs.Refusals.{IsRefused}
use Rattle.audit_jobs.specs.Decisions.{decision_status, IsDecisionTold}
use Rattle.pinpointing_jobs.specs.declared.wanted.Wanted.{Wanted}
use Rattle.classification_jobs.specs.LogEnds.{EndsSpent}
use Rattle.edit_session.specs.Sessions.{State, live_set}
use Rattle.edit_session.specs.Logged.{RunsOut}
use Rattle.pinpointing_jobs.specs.Listings.{end_status, IsListing, IsListAnswer}
use Rattle.audit_jobs.specs.Answers.{IsEvidenceAnswer}
use Rattle.pinpointing_jobs.specs.Counts.{IsCount, IsCounted}
use Rattle.ontology_jobs.specs.Words.{check, audit, decide, classify, realize, instances, reasons, session}
use Rattle.ontology_jobs.specs.Words.{pinpoint, evidence, Request, on_input, generated, request_of}
use Rattle.ontology_jobs.specs.Answers.{IsTooLong, IsBadWords, AnswersJob, AnswersRequest, Answers, AnswersAll}
use Rattle.ontology_jobs.specs.Laws.{HasSpentAll, UndecidedSpendsAll}
use Rattle.ontology_jobs.proofs.Said.{not_said, not_audited}

-- ---- a refusal is not undecided

no_refusal : (question : Text) (bytes out : List ℕ) (log : List Entry) → IsRefused question bytes out Undecided log → ⊥
no_refusal question bytes out log r = not_said Undecided refl r.reply out r.answer

too_long : (bytes out : List ℕ) (log : List Entry) → IsTooLong bytes out Undecided log → ⊥
too_long bytes out log long = let clash = ap (λ (a : Answer). a.0) long.answer in absurd (cc clash)

-- ---- what is undecided has spent all

ended_so : (e : TestEnd) → Matches Answered.Undecided e → ended_spent e ≡ true
ended_so (E.Spent t) m = refl
ended_so (E.Yes u) m = absurd m
ended_so E.No m = absurd m

-- an undecided test spent the budget
decided_test : (question : Text) (budget : ℕ) (bytes out : List ℕ) (log : List Entry)
    → IsDecisionTold question budget bytes out Undecided log → list_any is_spent log ≡ true
decided_test question budget bytes out log d = by d.decision d.status d.logged.matches
  where
    some_spent : ended_spent d.logged.ended ≡ true → list_any is_spent log ≡ true
    some_spent spent = ap (list_any is_spent) d.logged.is_log ∙ rw spent

    by : (x : Decision) → Undecided ≡ decision_status x → Matches x d.logged.ended → list_any is_spent log ≡ true
    by (Answered.Entailed r) is m = absurd (cc is)
    by (Answered.NotEntailed k) is m = absurd (cc is)
    by Answered.Undecided is m = some_spent (ended_so d.logged.ended m)

decided_spent : (question : Text) (budget : ℕ) (bytes out : List ℕ) (log : List Entry)
    → IsDecisionTold question budget bytes out Undecided log → spent_of log ≡ budget
decided_spent question budget bytes out log d =
    d.logged.honest.budget_kept.ends.is_whole (decided_test question budget bytes out log d)

pub question_test_spent : (question : Text) (budget : ℕ) (bytes out : List ℕ) (log : List Entry)
    → AnswersJob (decide question budget) bytes out Undecided log → list_any is_spent log ≡ true
question_test_spent question budget bytes out log (inl long) = absurd (too_long bytes out log long)
question_test_spent question budget bytes out log (inr (short, inl refused)) =
    absurd (no_refusal question bytes out log refused)
question_test_spent question budget bytes out log (inr (short, inr decided)) =
    decided_test question budget bytes out log decided

-- a log that ends with a test that spent the budget
ends_spent : (budget : ℕ) (log : List Entry) → EndsSpent budget log → list_any is_spent log ≡ true
ends_spent budget log ends =
    let last : Entry = Test ends.asked ends.query ends.steps (E.Spent ends.trail) in
    ap (list_any is_spent) ends.is_log ∙ list_any-append is_spent ends.before (last ∷ [])
    ∙ or-true (list_any is_spent ends.before)

pub class_test_spent : (budget : ℕ) (bytes out : List ℕ) (log : List Entry)
    → AnswersJob (classify budget) bytes out Undecided log → list_any is_spent log ≡ true
class_test_spent budget bytes out log (inl long) = absurd (too_long bytes out log long)
class_test_spent budget bytes out log (inr (short, on)) = ends_spent budget log on.so.ends

pub types_test_spent : (budget : ℕ) (bytes out : List ℕ) (log : List Entry)
    → AnswersJob (realize budget) bytes out Undecided log → list_any is_spent log ≡ true
types_test_spent budget bytes out log (inl long) = absurd (too_long bytes out log long)
types_test_spent budget bytes out log (inr (short, on)) = ends_spent budget log on.so.ends

pub instances_test_spent : (class : List ℕ) (budget : ℕ) (bytes out : List ℕ) (log : List Entry)
    → AnswersJob (instances class budget) bytes out Undecided log → list_any is_spent log ≡ true
instances_test_spent class budget bytes out log (inl long) = absurd (too_long bytes out log long)
instances_test_spent class budget bytes out log (inr (short, on)) = ends_spent budget log on.so.ends

-- a line of a script logged a test that ran out
ran_out_spent : (budget : ℕ) (s : State) (l : List ℕ) (before log : List Entry) → RunsOut budget s l before log
    → list_any is_spent log ≡ true
ran_out_spent budget s l before log runs_out =
    let asked = runs_out.test in
    let last : Entry = Test (live_set s) asked.query asked.tests.steps asked.tests.ended in
    ap (list_any is_spent) asked.tests.is_log
    ∙ list_any-append is_spent before (last ∷ [])
    ∙ ap (λ (b : Bool). list_any is_spent before || (b || false)) asked.tests.is_end
    ∙ or-true (list_any is_spent before)

pub session_test_spent : (budget : ℕ) (bytes out : List ℕ) (log : List Entry)
    → AnswersJob (session budget) bytes out Undecided log → list_any is_spent log ≡ true
session_test_spent budget bytes out log (inl long) = absurd (too_long bytes out log long)
session_test_spent budget bytes out log (inr (short, on)) =
    ran_out_spent budget on.so.standing on.so.undecided on.so.log log on.so.runs_out

listed_spent : (w : Wanted) (o : Listed) (q : Asked) (budget : ℕ) (log : List Entry) (out : List ℕ)
    → IsListAnswer w o q budget log Undecided out → spent_of log ≡ budget
listed_spent w o q budget log out l = by l.finished l.status l.listing
  where
    by : (finished : Bool) → Undecided ≡ end_status finished → IsListing w o q budget log l.sets finished
        → spent_of log ≡ budget
    by true is listing = absurd (cc is)
    by false is listing = listing.1

evidence_spent : (o : Listed) (q : Asked) (budget : ℕ) (log : List Entry) (out : List ℕ)
    → IsEvidenceAnswer o q budget log Undecided out → spent_of log ≡ budget
evidence_spent o q budget log out e = by e.finished e.written.status e.spent
  where
    by : (finished : Bool) → Undecided ≡ end_status finished → (finished ≡ false → spent_of log ≡ budget)
        → spent_of log ≡ budget
    by true is spent = absurd (cc is)
    by false is spent = spent refl

counted_spent : (number : ℕ) (o : Listed) (q : Asked) (budget : ℕ) (log : List Entry) (out : List ℕ)
    → IsCounted number o q budget log Undecided out → spent_of log ≡ budget
counted_spent number o q budget log out l = by l.finished l.status l.count
  where
    by : (finished : Bool) → Undecided ≡ end_status finished → IsCount number o q budget log out finished
        → spent_of log ≡ budget
    by true is count = absurd (cc is)
    by false is count = count.spent

pub spends_all : UndecidedSpendsAll
spends_all (on_input (check query)) bytes out log (inl long) = too_long bytes out log long
spends_all (on_input (check query)) bytes out log (inr (short, ((r, says, is), none))) =
    not_said Undecided refl r out is
spends_all (on_input (audit query)) bytes out log (inl long) = too_long bytes out log long
spends_all (on_input (audit query)) bytes out log (inr (short, ((end, says, is), none))) =
    not_audited Undecided refl end out is
spends_all (on_input (decide question budget)) bytes out log (inl long) = absurd (too_long bytes out log long)
spends_all (on_input (decide question budget)) bytes out log (inr (short, inl refused)) =
    absurd (no_refusal question bytes out log refused)
spends_all (on_input (decide question budget)) bytes out log (inr (short, inr decided)) =
    decided_spent question budget bytes out log decided
spends_all (on_input (classify budget)) bytes out log (inl long) = absurd (too_long bytes out log long)
spends_all (on_input (classify budget)) bytes out log (inr (short, on)) = on.so.ends.whole
spends_all (on_input (realize budget)) bytes out log (inl long) = absurd (too_long bytes out log long)
spends_all (on_input (realize budget)) bytes out log (inr (short, on)) = on.so.ends.whole
spends_all (on_input (instances class budget)) bytes out log (inl long) = absurd (too_long bytes out log long)
spends_all (on_input (instances class budget)) bytes out log (inr (short, on)) = on.so.ends.whole
spends_all (on_input (reasons class budget)) bytes out log (inl long) = absurd (too_long bytes out log long)
spends_all (on_input (reasons class budget)) bytes out log (inr (short, on)) = on.so.cut_short.spent
spends_all (on_input (session budget)) bytes out log (inl long) = absurd (too_long bytes out log long)
spends_all (on_input (session budget)) bytes out log (inr (short, on)) = on.so.runs_out.is_whole
spends_all (on_input (pinpoint wanted statement budget)) bytes out log (inl long) = absurd (too_long bytes out log long)
spends_all (on_input (pinpoint wanted statement budget)) bytes out log (inr (short, inl refused)) =
    absurd (no_refusal (follows statement) bytes out log refused)
spends_all (on_input (pinpoint wanted statement budget)) bytes out log (inr (short, inr p)) =
    listed_spent wanted p.ontology p.query budget log out p.listed
spends_all (on_input (evidence statement budget)) bytes out log (inl long) = absurd (too_long bytes out log long)
spends_all (on_input (evidence statement budget)) bytes out log (inr (short, inl refused)) =
    absurd (no_refusal (follows statement) bytes out log refused)
spends_all (on_input (evidence statement budget)) bytes out log (inr (short, inr e)) =
    evidence_spent e.ontology e.query budget log out e.answer
spends_all (generated number budget) bytes out log m = counted_spent number m.ontology m.query budget log out m.counted

pub answered_spends : (held : Option (List ℕ)) (words : List (List ℕ)) (out : List ℕ) (s : Status) (log : List Entry)
    → AnswersAll held words out s log → s ≡ Undecided → HasSpentAll (request_of words) log
answered_spends held words out s log (bytes, all, answers) is =
    by (request_of words) (subst (λ (t : Status). Answers words bytes out t log) is answers)
  where
    by : (r : Option Request)
        → MatchOption r (IsBadWords out Undecided log) (λ r. AnswersRequest r bytes out Undecided log)
        → HasSpentAll r log
    by None bad = absurd (cc bad.status)
    by (Some r) so = spends_all r bytes out log so
