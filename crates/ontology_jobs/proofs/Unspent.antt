-- An answer that memory was refused comes from no test that spent the budget.
use Rattle.std.proofs.Common.{◌≡◌, ◌⊎◌, ℕ, inl, inr, List, [], false, Option, Some, None, MatchOption, subst}
use Rattle.std.specs.List.{list_any}
use Rattle.shq_terms.specs.Listed.{Listed}
use Rattle.shq_terms.specs.declared.axioms.Query.{Query as Asked}
use Rattle.edit_session.specs.Entry.{Entry}
use Rattle.edit_session.specs.Entries.{is_spent}
use Rattle.audit_jobs.proofs.Logged.{none_spent}
use Rattle.job_inputs.specs.Questions.{Text, has_element, follows}
use Rattle.job_inputs.specs.Refusals.{OnDocument, HasBegun, nothing, asked}
use Rattle.job_inputs.specs.declared.status.Status.{Status}
use Rattle.job_inputs.specs.declared.status.Status.TheVariants.{NoMemory}
use Rattle.ontology_jobs.specs.Words.{check, audit, decide, classify, realize, instances, reasons, session}
use Rattle.ontology_jobs.specs.Words.{pinpoint, evidence, Request, on_input, generated, request_of}
use Rattle.ontology_jobs.specs.Answers.{IsBadWords, AnswersRequest, Answers, AnswersAll}
use Rattle.ontology_jobs.specs.Laws.{SpendsNoTest, HasSpentNoTest, NoMemorySpendsNoTest}

-- a question that was begun
begun_unspent : (question : Text) (bytes : List ℕ) (log : List Entry) (is_so : Listed → Asked → Type 0)
    → ((o : Listed) (q : Asked) → is_so o q → list_any is_spent log ≡ false)
    → HasBegun question bytes log is_so → list_any is_spent log ≡ false
begun_unspent question bytes log is_so unspent (nothing none) = none_spent log none
begun_unspent question bytes log is_so unspent (asked o q is so) = unspent o q so

-- and a document
document_unspent : (bytes : List ℕ) (log : List Entry) (is_so : Listed → Type 0)
    → ((o : Listed) → is_so o → list_any is_spent log ≡ false)
    → (log ≡ []) ⊎ OnDocument is_so bytes → list_any is_spent log ≡ false
document_unspent bytes log is_so unspent (inl none) = none_spent log none
document_unspent bytes log is_so unspent (inr on) = unspent on.ontology on.so

pub spends_no_test : NoMemorySpendsNoTest
spends_no_test (on_input (check query)) bytes out log (inl early) = none_spent log early.log_is
spends_no_test (on_input (check query)) bytes out log (inr (short, (so, none))) = none_spent log none
spends_no_test (on_input (audit query)) bytes out log (inl early) = none_spent log early.log_is
spends_no_test (on_input (audit query)) bytes out log (inr (short, (so, none))) = none_spent log none
spends_no_test (on_input (decide question budget)) bytes out log (inl early) = none_spent log early.log_is
spends_no_test (on_input (decide question budget)) bytes out log (inr (short, refused)) =
    begun_unspent question bytes log _ (λ o q so. so.unspent) refused.log_is
spends_no_test (on_input (classify budget)) bytes out log (inl early) = none_spent log early.log_is
spends_no_test (on_input (classify budget)) bytes out log (inr (short, refused)) =
    document_unspent bytes log _ (λ o so. so.unspent) refused.log_is
spends_no_test (on_input (realize budget)) bytes out log (inl early) = none_spent log early.log_is
spends_no_test (on_input (realize budget)) bytes out log (inr (short, refused)) =
    document_unspent bytes log _ (λ o so. so.unspent) refused.log_is
spends_no_test (on_input (instances class budget)) bytes out log (inl early) = none_spent log early.log_is
spends_no_test (on_input (instances class budget)) bytes out log (inr (short, refused)) =
    begun_unspent (has_element class) bytes log _ (λ o q so. so.unspent) refused.log_is
spends_no_test (on_input (reasons class budget)) bytes out log refused = tt
spends_no_test (on_input (session budget)) bytes out log refused = tt
spends_no_test (on_input (pinpoint wanted statement budget)) bytes out log refused = tt
spends_no_test (on_input (evidence statement budget)) bytes out log (inl early) = none_spent log early.log_is
spends_no_test (on_input (evidence statement budget)) bytes out log (inr (short, refused)) =
    begun_unspent (follows statement) bytes log _ (λ o q so. so.unspent) refused.log_is
spends_no_test (generated number budget) bytes out log refused =
    begun_unspent _ _ log _ (λ o q so. so.unspent) refused.log_is

pub answered_unspent : (held : Option (List ℕ)) (words : List (List ℕ)) (out : List ℕ) (s : Status) (log : List Entry)
    → AnswersAll held words out s log → s ≡ NoMemory → HasSpentNoTest (request_of words) log
answered_unspent held words out s log (bytes, all, answers) is =
    by (request_of words) (subst (λ (t : Status). Answers words bytes out t log) is answers)
  where
    by : (r : Option Request)
        → MatchOption r (IsBadWords out NoMemory log) (λ r. AnswersRequest r bytes out NoMemory log)
        → HasSpentNoTest r log
    by None bad = absurd (cc bad.status)
    by (Some r) so = spends_no_test r bytes out log so
