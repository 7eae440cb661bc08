-- What is read is not refused, and where something of the budget is left it is not undecided.
use Rattle.std.proofs.Common.{◌≡◌, ℕ, ◌<◌, ◌≤◌, ◌^◌, ◌⊎◌, inl, inr, List, [], length, drop, true}
use Rattle.std.proofs.Common.{false, Option, Some, None, Result, Ok, Err, MatchOption, ap, sym, ◌∙◌, subst, arith}
use Rattle.std.specs.List.{list_any}
use Rattle.shq_terms.specs.Listed.{Listed}
use Rattle.shq_terms.specs.declared.axioms.Query.{Query as Asked}
use Rattle.ofn_reader.specs.Queries.{query_start}
use Rattle.ofn_reader.proofs.Unique.{documents, documents_not_refused, queries_not_refused}
use Rattle.edit_session.specs.Entry.{Entry}
use Rattle.edit_session.specs.Entries.{spent_of, is_spent}
use Rattle.audit_jobs.specs.Audited.{Audited, IsAuditEnd, end_answer}
use Rattle.audit_jobs.specs.AuditVerdict.{AuditVerdict}
use Rattle.audit_jobs.specs.AuditVerdict.TheVariants as A
use Rattle.job_inputs.specs.declared.unread.Unread.{Unread}
use Rattle.job_inputs.specs.declared.unread.Unread.TheVariants as U
use Rattle.audit_jobs.specs.Checked.{Checked}
use Rattle.audit_jobs.specs.Checking.{Shows, IsReply, no_document, no_query, shown}
use Rattle.job_inputs.specs.Answer.{Answer}
use Rattle.job_inputs.specs.Asked.{IsAsked, Reply, judged, refused_document, refused_query}
use Rattle.job_inputs.specs.Asked.{malformed_line}
use Rattle.classification_jobs.specs.LimitLaws.{with_names}
use Rattle.job_inputs.specs.Questions.{has_element, follows, IsRefusedQuestion}
use Rattle.job_inputs.specs.Replies.{reply_answer}
use Rattle.job_inputs.specs.declared.verdict.Verdict.{Verdict}
use Rattle.job_inputs.specs.declared.verdict.Verdict.TheVariants.{NotEntailed, Entailed, Axiom, Query, Line}
use Rattle.job_inputs.specs.declared.status.Status.{Status}
use Rattle.job_inputs.specs.declared.status.Status.TheVariants.{Done, Rejected, BadWords, BadText, Outside, Limit}
use Rattle.job_inputs.specs.declared.status.Status.TheVariants.{ReadFault}
use Rattle.job_inputs.specs.declared.status.Status.TheVariants.{WriteFault, Undecided, NoMemory}
use Rattle.job_inputs.proofs.OneReading.{alone_not_refused, questions_not_refused}
use Rattle.ontology_jobs.specs.Words.{Job, check, audit, decide, classify, realize, instances, reasons, session}
use Rattle.ontology_jobs.specs.Words.{pinpoint, evidence, Request, on_input, generated, request_of}
use Rattle.ontology_jobs.specs.Answers.{IsBadWords, AreAll, AnswersJob, AnswersRequest, AnswersAll}
use Rattle.ontology_jobs.specs.Laws.{IsFaultless}
use Rattle.ontology_jobs.specs.Complete.{BeginsWithDocument, IsReadable, IsDone, IsJudged}
use Rattle.ontology_jobs.specs.Complete.{JobsAreDone, WorkloadsAreDone, IsComplete}
use Rattle.ontology_jobs.proofs.Ended.{Ended, too_long, is_refused, is_done, is_undecided, RefusesDocument}
use Rattle.ontology_jobs.proofs.Ended.{RefusesScript, IsReadBy, IsReadDocument, IsReadScript, by_job, question_ended}
use Rattle.ontology_jobs.proofs.Ended.{list_ended, evidence_ended, class_ended, types_ended, instances_ended}
use Rattle.ontology_jobs.proofs.Ended.{reasons_ended, session_ended, workload_ended}
use Rattle.ontology_jobs.proofs.Spending.{spends_all, question_test_spent, class_test_spent, types_test_spent}
use Rattle.ontology_jobs.proofs.Spending.{instances_test_spent, session_test_spent}

-- ---- an input that is read

module _ (refused : Reply → Type 0) (read : Type 0) (excluded : (r : Reply) → read → refused r → ⊥) (bytes out : List ℕ)
    (log : List Entry) where
  done_by : (s : Status) → length bytes ≤ 2 ^ 24 → read → (s ≡ Undecided → ⊥) → Ended refused read bytes out s log
      → IsDone s
  done_by s short so left (too_long long) = absurd (omega (arith, short, long.long))
  done_by s short so left (is_refused _ r why is none) = absurd (excluded r so why)
  done_by s short so left (is_done _ _ is) = subst IsDone (sym is) tt
  done_by s short so left (is_undecided _ _ is) = absurd (left is)

-- ---- what is left of the budget

some_left : (spent budget : ℕ) → spent < budget → spent ≡ budget → ⊥
some_left spent budget less same = absurd (omega (arith, less, same))

no_test_spent : (log : List Entry) → list_any is_spent log ≡ false → list_any is_spent log ≡ true → ⊥
no_test_spent log none some = let clash : false ≡ true = sym none ∙ some in absurd (cc clash)

left_of_tests : (budget : ℕ) (log : List Entry) → (spent_of log < budget) ⊎ (list_any is_spent log ≡ false)
    → spent_of log ≡ budget → list_any is_spent log ≡ true → ⊥
left_of_tests budget log (inl less) all some = some_left (spent_of log) budget less all
left_of_tests budget log (inr none) all some = no_test_spent log none some

-- ---- verifications

judged_status : (v : Verdict) (s : Status) (out : List ℕ) → ◌≡◌ {A = Answer} (s, out) (reply_answer (judged v))
    → IsJudged s
judged_status Entailed s out is = subst IsJudged (sym (ap (λ (a : Answer). a.0) is)) tt
judged_status NotEntailed s out is = subst IsJudged (sym (ap (λ (a : Answer). a.0) is)) tt
judged_status (Axiom k) s out is = subst IsJudged (sym (ap (λ (a : Answer). a.0) is)) tt
judged_status Query s out is = subst IsJudged (sym (ap (λ (a : Answer). a.0) is)) tt
judged_status (Line n) s out is = subst IsJudged (sym (ap (λ (a : Answer). a.0) is)) tt

shown_status : (o : Listed) (q : Asked) (rest : List ℕ) (r : Reply) (s : Status) (out : List ℕ) → Shows o q rest r
    → ◌≡◌ {A = Answer} (s, out) (reply_answer r) → IsJudged s
shown_status o q rest (judged v) s out shows is = judged_status v s out is
shown_status o q rest (malformed_line k) s out shows is = subst IsJudged (sym (ap (λ (a : Answer). a.0) is)) tt
shown_status o q rest (refused_document e) s out shows is = absurd shows
shown_status o q rest (refused_query e) s out shows is = absurd shows

replied : (query bytes : List ℕ) (r : Reply) (s : Status) (out : List ℕ) → BeginsWithDocument query bytes
    → IsReply query bytes r → ◌≡◌ {A = Answer} (s, out) (reply_answer r) → IsJudged s
replied query bytes _ s out b (no_document e why) is =
    absurd (documents_not_refused bytes b.document b.kept b.end e b.is_document why)
replied query bytes _ s out b (no_query o kept end e found why) is =
    let same = documents bytes b.document o b.kept kept b.end end b.is_document found in
    let there : IsAsked o kept query b.counts b.asked =
    subst (λ k. IsAsked o k query b.counts b.asked) same.1
    (subst (λ l. IsAsked l b.kept query b.counts b.asked) same.0 b.is_query) in
    absurd (queries_not_refused kept.prefixes o.axioms (query_start o kept.nodes) query b.counts b.asked e there why)
replied query bytes _ s out b (shown o kept end counts q r found asked shows) is =
    shown_status (with_names o counts) q (drop end bytes) r s out shows is

checked : (query bytes out : List ℕ) (s : Status) → IsFaultless s → BeginsWithDocument query bytes
    → Checked query bytes out s → IsJudged s
checked query bytes out Done known b (r, says, is) = replied query bytes r Done out b says is
checked query bytes out Rejected known b (r, says, is) = replied query bytes r Rejected out b says is
checked query bytes out BadWords known b (r, says, is) = replied query bytes r BadWords out b says is
checked query bytes out BadText known b (r, says, is) = replied query bytes r BadText out b says is
checked query bytes out Outside known b (r, says, is) = replied query bytes r Outside out b says is
checked query bytes out Limit known b (r, says, is) = replied query bytes r Limit out b says is
checked query bytes out ReadFault known b c = absurd known
checked query bytes out WriteFault known b c = absurd known
checked query bytes out Undecided known b (r, says, is) = replied query bytes r Undecided out b says is
checked query bytes out NoMemory known b c = absurd known

-- ---- audits

known_judged : (s t : Status) (out text : List ℕ) → ◌≡◌ {A = Answer} (s, out) (t, text) → IsJudged t → IsJudged s
known_judged s t out text is known = subst IsJudged (sym (ap (λ (a : Answer). a.0) is)) known

end_judged : (query bytes : List ℕ) (s : Status) (out : List ℕ) → IsFaultless s → BeginsWithDocument query bytes
    → (end : Result AuditVerdict Unread) → IsAuditEnd query bytes end → ◌≡◌ {A = Answer} (s, out) (end_answer end)
    → IsJudged s
end_judged query bytes s out known b (Ok A.Accepted) says is = known_judged s Done out _ is tt
end_judged query bytes s out known b (Ok (A.Justification n)) says is = known_judged s Rejected out _ is tt
end_judged query bytes s out known b (Ok (A.Repair n)) says is = known_judged s Rejected out _ is tt
end_judged query bytes s out known b (Ok A.Transversal) says is = known_judged s Rejected out _ is tt
end_judged query bytes s out known b (Err (U.Document e)) why is =
    absurd (documents_not_refused bytes b.document b.kept b.end e b.is_document why)
end_judged query bytes s out known b (Err (U.Query e)) why is =
    let same = documents bytes b.document why.document b.kept why.kept b.end why.end b.is_document why.is_document in
    let there : IsAsked why.document why.kept query b.counts b.asked =
    subst (λ k. IsAsked why.document k query b.counts b.asked) same.1
    (subst (λ l. IsAsked l b.kept query b.counts b.asked) same.0 b.is_query) in
    absurd (queries_not_refused why.kept.prefixes why.document.axioms (query_start why.document why.kept.nodes) query
    b.counts b.asked e there why.not_asked)
end_judged query bytes s out known b (Err (U.Line n)) why is = known_judged s Rejected out _ is tt
end_judged query bytes s out known b (Err U.NoMemory) why is =
    absurd (subst IsFaultless (ap (λ (a : Answer). a.0) is) known)

audited : (query bytes out : List ℕ) (s : Status) → IsFaultless s → BeginsWithDocument query bytes
    → Audited query bytes out s → IsJudged s
audited query bytes out Done known b (end, says, is) = end_judged query bytes Done out known b end says is
audited query bytes out Rejected known b (end, says, is) = end_judged query bytes Rejected out known b end says is
audited query bytes out BadWords known b (end, says, is) = end_judged query bytes BadWords out known b end says is
audited query bytes out BadText known b (end, says, is) = end_judged query bytes BadText out known b end says is
audited query bytes out Outside known b (end, says, is) = end_judged query bytes Outside out known b end says is
audited query bytes out Limit known b (end, says, is) = end_judged query bytes Limit out known b end says is
audited query bytes out ReadFault known b c = absurd known
audited query bytes out WriteFault known b c = absurd known
audited query bytes out Undecided known b (end, says, is) = end_judged query bytes Undecided out known b end says is
audited query bytes out NoMemory known b c = absurd known

-- ---- jobs

undecided : (job : Job) (bytes out : List ℕ) (s : Status) (log : List Entry) → s ≡ Undecided
    → AnswersJob job bytes out s log → AnswersJob job bytes out Undecided log
undecided job bytes out s log is answer = subst (λ (t : Status). AnswersJob job bytes out t log) is answer

pub jobs_are_done : JobsAreDone
jobs_are_done (check query) bytes out s log readable left known answer =
    elim (by_job (check query) bytes out s log known answer) [
      | inl long ↦ absurd (omega (arith, readable.short, long.long))
      | inr read ↦ checked query bytes out s known readable.read read.1.0
    ]
jobs_are_done (audit query) bytes out s log readable left known answer =
    elim (by_job (audit query) bytes out s log known answer) [
      | inl long ↦ absurd (omega (arith, readable.short, long.long))
      | inr read ↦ audited query bytes out s known readable.read read.1.0
    ]
jobs_are_done (decide question budget) bytes out s log readable left known answer =
    done_by (IsRefusedQuestion question bytes) (IsReadBy question bytes)
    (λ r so why. questions_not_refused question bytes so.0 so.1 r so.2 why) bytes out log s readable.short readable.read
    (λ is.
    let so = undecided (decide question budget) bytes out s log is answer in
    left_of_tests budget log left (spends_all (on_input (decide question budget)) bytes out log so)
    (question_test_spent question budget bytes out log so))
    (question_ended question budget bytes out s log known answer)
jobs_are_done (classify budget) bytes out s log readable left known answer =
    done_by (RefusesDocument bytes) (IsReadDocument bytes)
    (λ r so why. alone_not_refused bytes so.0 so.1 why.0 so.2 why.1) bytes out log s readable.short readable.read
    (λ is.
    let so = undecided (classify budget) bytes out s log is answer in
    left_of_tests budget log left (spends_all (on_input (classify budget)) bytes out log so)
    (class_test_spent budget bytes out log so))
    (class_ended budget bytes out s log known answer)
jobs_are_done (realize budget) bytes out s log readable left known answer =
    done_by (RefusesDocument bytes) (IsReadDocument bytes)
    (λ r so why. alone_not_refused bytes so.0 so.1 why.0 so.2 why.1) bytes out log s readable.short readable.read
    (λ is.
    let so = undecided (realize budget) bytes out s log is answer in
    left_of_tests budget log left (spends_all (on_input (realize budget)) bytes out log so)
    (types_test_spent budget bytes out log so))
    (types_ended budget bytes out s log known answer)
jobs_are_done (instances class budget) bytes out s log readable left known answer =
    done_by (IsRefusedQuestion (has_element class) bytes) (IsReadBy (has_element class) bytes)
    (λ r so why. questions_not_refused (has_element class) bytes so.0 so.1 r so.2 why) bytes out log s readable.short
    readable.read
    (λ is.
    let so = undecided (instances class budget) bytes out s log is answer in
    left_of_tests budget log left (spends_all (on_input (instances class budget)) bytes out log so)
    (instances_test_spent class budget bytes out log so))
    (instances_ended class budget bytes out s log known answer)
jobs_are_done (reasons class budget) bytes out s log readable left known answer =
    done_by (IsRefusedQuestion (has_element class) bytes) (IsReadBy (has_element class) bytes)
    (λ r so because. questions_not_refused (has_element class) bytes so.0 so.1 r so.2 because) bytes out log s
    readable.short readable.read
    (λ is. some_left (spent_of log) budget left
    (spends_all (on_input (reasons class budget)) bytes out log
    (undecided (reasons class budget) bytes out s log is answer)))
    (reasons_ended class budget bytes out s log known answer)
jobs_are_done (session budget) bytes out s log readable left known answer =
    done_by (RefusesScript bytes) (IsReadScript bytes)
    (λ r so because. documents_not_refused bytes so.0 so.1 so.2 because.0 so.3 because.1) bytes out log s readable.short
    readable.read
    (λ is.
    let so = undecided (session budget) bytes out s log is answer in
    left_of_tests budget log left (spends_all (on_input (session budget)) bytes out log so)
    (session_test_spent budget bytes out log so))
    (session_ended budget bytes out s log known answer)
jobs_are_done (pinpoint w statement budget) bytes out s log readable left known answer =
    done_by (IsRefusedQuestion (follows statement) bytes) (IsReadBy (follows statement) bytes)
    (λ r so why. questions_not_refused (follows statement) bytes so.0 so.1 r so.2 why) bytes out log s readable.short
    readable.read
    (λ is. some_left (spent_of log) budget left
    (spends_all (on_input (pinpoint w statement budget)) bytes out log
    (undecided (pinpoint w statement budget) bytes out s log is answer)))
    (list_ended w statement budget bytes out s log known answer)
jobs_are_done (evidence statement budget) bytes out s log readable left known answer =
    done_by (IsRefusedQuestion (follows statement) bytes) (IsReadBy (follows statement) bytes)
    (λ r so why. questions_not_refused (follows statement) bytes so.0 so.1 r so.2 why) bytes out log s readable.short
    readable.read
    (λ is. some_left (spent_of log) budget left
    (spends_all (on_input (evidence statement budget)) bytes out log
    (undecided (evidence statement budget) bytes out s log is answer)))
    (evidence_ended statement budget bytes out s log known answer)

pub workloads_are_done : WorkloadsAreDone
workloads_are_done number budget bytes out s log left known answer =
    elim (workload_ended number budget out s log known answer) [
      | inl done ↦ subst IsDone (sym done) tt
      | inr is ↦
          absurd (some_left (spent_of log) budget left
          (spends_all (generated number budget) bytes out log
          (subst (λ (t : Status). AnswersRequest (generated number budget) bytes out t log) is answer)))
    ]

-- ---- a run

pub all_complete : (held : Option (List ℕ)) (words : List (List ℕ)) (out : List ℕ) (s : Status) (log : List Entry)
    → AnswersAll held words out s log → IsComplete (request_of words) held s log
all_complete held words out s log (bytes, all, answer) = by (request_of words) held all answer
  where
    by : (r : Option Request) (held : Option (List ℕ)) → AreAll held bytes
        → MatchOption r (IsBadWords out s log) (λ x. AnswersRequest x bytes out s log) → IsComplete r held s log
    by None held all so = tt
    by (Some (on_input job)) None all so = tt
    by (Some (on_input job)) (Some given) all so =
        λ readable left known. jobs_are_done job bytes out s log (subst (IsReadable job) all readable) left known so
    by (Some (generated number budget)) None all so =
        λ left known. workloads_are_done number budget bytes out s log left known so
    by (Some (generated number budget)) (Some given) all so =
        λ left known. workloads_are_done number budget bytes out s log left known so

-- where the sink failed, nothing is asked of the end
pub faulty_complete : (r : Option Request) (held : Option (List ℕ)) (log : List Entry)
    → IsComplete r held WriteFault log
faulty_complete None held log = tt
faulty_complete (Some (on_input job)) None log = tt
faulty_complete (Some (on_input job)) (Some bytes) log = λ readable left known. absurd known
faulty_complete (Some (generated number budget)) None log = λ left known. absurd known
faulty_complete (Some (generated number budget)) (Some bytes) log = λ left known. absurd known
