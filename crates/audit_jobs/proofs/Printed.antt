-- What is printed is accepted behind its document.
use Rattle.std.proofs.Common.{◌≡◌, ◌≢◌, ℕ, ◌+◌, ◌≤◌, Bool, true, false, List, [], ◌∷◌, ◌++◌, length, take, drop, Option}
use Rattle.std.proofs.Common.{Some, None, Result, Ok, Err, inl, inr, refl, ap, sym, ◌∙◌, subst, arith, append_assoc}
use Rattle.std.proofs.Common.{length-append, codes}
use Rattle.std.specs.List.{prefix_len}
use Rattle.std.proofs.lemmas.List.{drop_at, length-take-le}
use Rattle.shq_terms.specs.Listed.{Listed}
use Rattle.shq_terms.specs.declared.axioms.Query.{Query as Asked}
use Rattle.certificate_lines.specs.Lines.{lines, is_blank}
use Rattle.certificate_lines.specs.Written.{fed}
use Rattle.ofn_reader.proofs.Unique.{documents}
use Rattle.job_inputs.proofs.LongerDocuments.{documents_end, longer_documents}
use Rattle.decision_jobs.specs.Certificates.{certificate_lines}
use Rattle.decision_jobs.proofs.Blanks.{few_lines}
use Rattle.job_inputs.specs.Answer.{Answer, IsAnswer, line, complaint_answer}
use Rattle.job_inputs.specs.Asked.{Reply}
use Rattle.job_inputs.specs.Complaints.{Complaint, sort_status, complaint}
use Rattle.job_inputs.specs.Questions.{Text, follows, IsQuestion, IsRefusedQuestion, document, query}
use Rattle.job_inputs.specs.Replies.{reply_answer}
use Rattle.job_inputs.specs.declared.complaint.Place.{Place}
use Rattle.job_inputs.specs.declared.complaint.Place.TheVariants as P
use Rattle.job_inputs.specs.declared.complaint.Sort.{Sort}
use Rattle.job_inputs.specs.declared.complaint.Sort.TheVariants as S
use Rattle.job_inputs.specs.declared.status.Status.{Status}
use Rattle.job_inputs.specs.declared.status.Status.TheVariants.{Done, NoMemory}
use Rattle.job_inputs.specs.declared.unread.Unread.{Unread}
use Rattle.job_inputs.specs.declared.unread.Unread.TheVariants as U
use Rattle.audit_check.specs.AuditLists.{AuditLists}
use Rattle.audit_check.specs.AuditText.{audit_in}
use Rattle.audit_check.specs.Written.{justifications_text, repairs_text, audit_text}
use Rattle.audit_check.proofs.Joined.{fed_first}
use Rattle.audit_check.specs.declared.verdict.AuditVerdict.{AuditVerdict}
use Rattle.audit_check.specs.declared.verdict.AuditVerdict.TheVariants as verdict
use Rattle.pinpointing_jobs.specs.Listings.{end_status}
use Rattle.audit_jobs.specs.Answers.{IsAuditText, IsEvidenceText}
use Rattle.audit_jobs.specs.Audited.{Audited, IsAuditEnd, IsAskedOn, IsJudged, IsJudgedOn, audit_after, end_answer}
use Rattle.audit_jobs.specs.Laws.{AreBlankLines, PrintedEvidenceIsAccepted}
use Rattle.audit_jobs.proofs.Accepted.{read_back, all_listed}
use Rattle.audit_jobs.proofs.BlankLines.{blank_skipped}
use Rattle.audit_jobs.proofs.OneAnswer.{IsKnown, one_end}

-- ---- what is refused is not answered with Done

no_sort : (s : Sort) → sort_status s ≡ Done → ⊥
no_sort S.BadText is = cc
no_sort S.Outside is = cc
no_sort S.Limit is = cc

no_complaint : (place : Place) (c : Option Complaint) (out : List ℕ) → IsAnswer (complaint_answer place c) out Done → ⊥
no_complaint place None out is = let clash : Done ≡ NoMemory = ap (λ (a : Answer). a.0) is in cc
no_complaint place (Some c) out is = no_sort c.sort (sym (ap (λ (a : Answer). a.0) is))

not_refused : (question : Text) (bytes : List ℕ) (r : Reply) (out : List ℕ) → IsRefusedQuestion question bytes r
    → IsAnswer (reply_answer r) out Done → ⊥
not_refused question bytes _ out (document e why) is = no_complaint P.Document (complaint e) out is
not_refused question bytes _ out (query o kept e alone why) is = no_complaint P.Query (complaint e) out is

-- ---- what a check answers ends it

audited_end : (statement bytes answer : List ℕ) (s : Status) → Audited statement bytes answer s → s ≢ NoMemory
    → (end : Result AuditVerdict Unread) × IsAuditEnd statement bytes end × IsAnswer (end_answer end) answer s
audited_end statement bytes answer NoMemory told known = absurd (known refl)
audited_end statement bytes answer s told known = told

known_end : (end : Result AuditVerdict Unread) (answer : List ℕ) (s : Status) → IsAnswer (end_answer end) answer s
    → s ≢ NoMemory → IsKnown end
known_end (Ok v) answer s is known = tt
known_end (Err (U.Document e)) answer s is known = tt
known_end (Err (U.Query e)) answer s is known = tt
known_end (Err (U.Line n)) answer s is known = tt
known_end (Err U.NoMemory) answer s is known = known (ap (λ (a : Answer). a.0) is)

abbrev IsAcceptance : List ℕ → Status → Type 0
IsAcceptance answer s = (s ≡ Done) × (answer ≡ line (codes "accepted audit"))

-- where the audit is accepted, nothing else is answered
accepted_only : (statement bytes answer : List ℕ) (s : Status) → IsJudgedOn statement bytes verdict.Accepted
    → Audited statement bytes answer s → s ≢ NoMemory → IsAcceptance answer s
accepted_only statement bytes answer s judged told known =
    let ended = audited_end statement bytes answer s told known in
    let same : ◌≡◌ {A = Answer} (s, answer) (Done, line (codes "accepted audit")) =
    ended.2 ∙ sym
    (one_end statement bytes (Ok verdict.Accepted) ended.0 tt (known_end ended.0 answer s ended.2 known) judged
    ended.1) in
    (ap (λ (a : Answer). a.0) same, ap (λ (a : Answer). a.1) same)

-- ---- the text of an audit behind its document

-- no line in front of it is blank
begins_with_audit : (o : Listed) (a : AuditLists) → certificate_lines (audit_text o a) ≡ lines (audit_text o a)
begins_with_audit o a =
    let js = justifications_text o a.justifications in
    let rs = repairs_text o a.repairs in
    let ending = fed (codes "end audit") in
    let grouped : audit_text o a ≡ fed (codes "audit") ++ (js ++ (rs ++ ending)) =
    append_assoc (fed (codes "audit") ++ js) rs ending ∙ append_assoc (fed (codes "audit")) js (rs ++ ending) in
    let first : lines (audit_text o a) ≡ codes "audit" ∷ lines (js ++ (rs ++ ending)) =
    ap lines grouped ∙ fed_first (codes "audit") (js ++ (rs ++ ending)) refl in
    ap (λ (ls : List (List ℕ)). drop (prefix_len is_blank ls) ls) first ∙ sym first

module _ (statement bytes out : List ℕ) (o : Listed) (q : Asked) (is : IsQuestion (follows statement) bytes o q)
    (t : IsAuditText o q out) (short : length (lines out) ≤ 4294967293) (gap : List ℕ) (g : AreBlankLines gap) where
  behind_is : gap ++ out ≡ g.before ++ 10 ∷ out
  behind_is = ap (λ (l : List ℕ). l ++ out) g.made ∙ append_assoc g.before (10 ∷ []) out

  lines_are : certificate_lines (gap ++ out) ≡ lines out
  lines_are =
      ap certificate_lines behind_is ∙ blank_skipped g.before out g.blank ∙ ap certificate_lines t.text
      ∙ begins_with_audit o t.audit ∙ ap lines (sym t.text)

  is_audit : audit_after o (gap ++ out) ≡ Ok t.audit
  is_audit = ap (audit_in o) lines_are ∙ read_back statement bytes out o q is t short

  judged : IsJudged o q t.audit verdict.Accepted
  judged = record {
    ordered = t.kept.ordered;
    verdict_is = t.sound;
    lists_all = λ accepted. all_listed statement bytes out o q is t short;
  }

  asked_on : IsAskedOn statement (take is.is_document.end bytes ++ (gap ++ out)) o q (gap ++ out)
  asked_on =
      let end : ℕ = is.is_document.end in
      let within : end ≤ length bytes = documents_end bytes is.document is.kept end is.is_document.is_document in
      record {
        document = is.document;
        kept = is.kept;
        end = end;
        counts = is.counts;
        is_document = longer_documents bytes is.document is.kept end is.is_document.is_document (gap ++ out);
        is_query = is.is_asked;
        both_are = is.both_are;
        rest_is = sym (drop_at (take end bytes) (gap ++ out) end (length-take-le end bytes within));
      }

  judged_on : IsJudgedOn statement (take is.is_document.end bytes ++ (gap ++ out)) verdict.Accepted
  judged_on = record {
    both = o;
    asked = q;
    rest = gap ++ out;
    audit = t.audit;
    is_asked = asked_on;
    is_audit = is_audit;
    judged = judged;
  }

-- the text has as many lines as can be counted
lines_counted : (front out gap : List ℕ) → AreBlankLines gap → length (front ++ (gap ++ out)) ≤ 4294967293
    → length (lines out) ≤ 4294967293
lines_counted front out gap g short =
    let gap_length : length gap ≡ length g.before + 1 = ap length g.made ∙ length-append g.before (10 ∷ []) in
    omega (arith, few_lines out, length-append front (gap ++ out), length-append gap out, gap_length, short)

pub printed : PrintedEvidenceIsAccepted
printed statement budget bytes out log (inl refused) o kept end d gap g short answer s told known =
    absurd (not_refused (follows statement) bytes refused.reply out refused.refused refused.answer)
printed statement budget bytes out log (inr is) o kept end d gap g short answer s told known =
    by is.answer.finished is.answer.written.text is.answer.written.status
  where
    by : (b : Bool) → IsEvidenceText is.ontology is.query out b → Done ≡ end_status b
        → (s ≡ Done) × (answer ≡ line (codes "accepted audit"))
    by false t status = absurd (cc status)
    by true t status =
        let alone = is.is_question.is_document in
        let same : alone.end ≡ end =
        (documents bytes is.is_question.document o is.is_question.kept kept alone.end end alone.is_document d).2 in
        let judged =
        judged_on statement bytes out is.ontology is.query is.is_question t
        (lines_counted (take end bytes) out gap g short) gap g in
        accepted_only statement (take end bytes ++ (gap ++ out)) answer s
        (subst (λ n. IsJudgedOn statement (take n bytes ++ (gap ++ out)) verdict.Accepted) same judged) told known
