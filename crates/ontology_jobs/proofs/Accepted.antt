-- What is accepted is true.
use Rattle.std.proofs.Common.{◌≡◌, ℕ, ◌⊎◌, inl, inr, List, [], length, drop, map, Option}
use Rattle.std.proofs.Common.{Some, None, Result, Ok, Err, refl, ap, subst, arith}
use Rattle.std.specs.Prelude.{codes}
use Rattle.shq_terms.specs.Listed.{Listed}
use Rattle.shq_terms.specs.declared.axioms.Axiom.{Axiom as SomeAxiom}
use Rattle.shq_terms.specs.declared.axioms.Query.{Query as Asked}
use Rattle.shq_meaning.specs.Truth.{Entails}
use Rattle.audit_jobs.proofs.Truth.{followed, not_followed}
use Rattle.edit_session.specs.Entry.{Entry}
use Rattle.audit_jobs.specs.Audited.{IsAuditEnd, IsJudgedOn, end_answer}
use Rattle.audit_jobs.specs.AuditVerdict.{AuditVerdict}
use Rattle.audit_jobs.specs.AuditVerdict.TheVariants as A
use Rattle.job_inputs.specs.declared.unread.Unread.{Unread}
use Rattle.job_inputs.specs.declared.unread.Unread.TheVariants as U
use Rattle.ontology_jobs.specs.Words.{check, audit}
use Rattle.classification_jobs.specs.LimitLaws.{with_names}
use Rattle.job_inputs.specs.Asked.{Reply, judged, refused_document, refused_query, malformed_line}
use Rattle.audit_jobs.specs.Checking.{IsVerdictOn, Shows, IsReply, no_document, no_query, shown}
use Rattle.job_inputs.specs.Complaints.{Complaint, sort_status, complaint}
use Rattle.job_inputs.specs.Answer.{line, Answer, complaint_answer}
use Rattle.job_inputs.specs.Replies.{reply_answer}
use Rattle.ontology_jobs.specs.Answers.{AnswersJob}
use Rattle.ontology_jobs.specs.Laws.{HaveRead, HaveAudited, AcceptedAuditsListAll}
use Rattle.audit_jobs.specs.Certificate.{Certificate}
use Rattle.audit_jobs.specs.Certificate.TheVariants as C
use Rattle.job_inputs.specs.declared.complaint.Place.{Place}
use Rattle.job_inputs.specs.declared.complaint.Place.TheVariants as P
use Rattle.job_inputs.specs.declared.complaint.Sort.{Sort}
use Rattle.job_inputs.specs.declared.complaint.Sort.TheVariants as S
use Rattle.job_inputs.specs.declared.verdict.Verdict.{Verdict}
use Rattle.job_inputs.specs.declared.verdict.Verdict.TheVariants.{NotEntailed, Entailed, Axiom, Query, Line}
use Rattle.job_inputs.specs.declared.status.Status.TheVariants.{Done, NoMemory}

-- ---- which replies are accepting

no_complaint_is_done : (place : Place) (c : Option Complaint) (out : List ℕ)
    → ◌≡◌ {A = Answer} (Done, out) (complaint_answer place c) → ⊥
no_complaint_is_done place None out is = let clash : Done ≡ NoMemory = ap (λ (a : Answer). a.0) is in absurd (cc clash)
no_complaint_is_done place (Some c) out is = by c.sort (ap (λ (a : Answer). a.0) is)
  where
    by : (s : Sort) → Done ≡ sort_status s → ⊥
    by S.BadText clash = absurd (cc clash)
    by S.Outside clash = absurd (cc clash)
    by S.Limit clash = absurd (cc clash)

-- a text of so many bytes is that of an accepting verdict alone
done_by : (r : Reply) (out : List ℕ) → ◌≡◌ {A = Answer} (Done, out) (reply_answer r)
    → ((r ≡ judged Entailed) × (length out ≡ 18)) ⊎ ((r ≡ judged NotEntailed) × (length out ≡ 22))
done_by (judged Entailed) out is = inl (refl, ap (λ (a : Answer). length a.1) is)
done_by (judged NotEntailed) out is = inr (refl, ap (λ (a : Answer). length a.1) is)
done_by (judged (Axiom k)) out is = let clash = ap (λ (a : Answer). a.0) is in absurd (cc clash)
done_by (judged Query) out is = let clash = ap (λ (a : Answer). a.0) is in absurd (cc clash)
done_by (judged (Line n)) out is = let clash = ap (λ (a : Answer). a.0) is in absurd (cc clash)
done_by (refused_document e) out is = absurd (no_complaint_is_done P.Document (complaint e) out is)
done_by (refused_query e) out is = absurd (no_complaint_is_done P.Query (complaint e) out is)
done_by (malformed_line n) out is = let clash = ap (λ (a : Answer). a.0) is in absurd (cc clash)

-- ---- what was read

module _ (query bytes : List ℕ) where
  -- a verdict is one on a certificate after a document with a query
  judged_on : (holds : List SomeAxiom → Asked → Type 0) (v : Verdict)
      → ((o : Listed) (q : Asked) (c : Certificate) → IsVerdictOn o q c v → holds (map (λ n. n.axiom) o.axioms) q)
      → (r : Reply) → r ≡ judged v → IsReply query bytes r → HaveRead holds query bytes
  judged_on holds v so _ is (no_document e why) = absurd (cc is)
  judged_on holds v so _ is (no_query o kept end e found why) = absurd (cc is)
  judged_on holds v so _ is (shown o kept end counts q r found asked shows) =
      by (subst (Shows (with_names o counts) q (drop end bytes)) is shows)
    where
      by : Shows (with_names o counts) q (drop end bytes) (judged v) → HaveRead holds query bytes
      by (c, certified, verdict) = record {
        document = o;
        kept = kept;
        end = end;
        counts = counts;
        asked = q;
        is_document = found;
        is_query = asked;
        what_holds = so (with_names o counts) q c verdict;
      }

  -- the reply of an answer that was done
  reply_of : (out : List ℕ) (log : List Entry) → AnswersJob (check query) bytes out Done log
      → (r : Reply) × IsReply query bytes r × (◌≡◌ {A = Answer} (Done, out) (reply_answer r))
  reply_of out log (inl long) = let clash = ap (λ (a : Answer). a.0) long.answer in absurd (cc clash)
  reply_of out log (inr (short, (reply, none))) = reply

  pub follows : (log : List Entry) → AnswersJob (check query) bytes (line (codes "accepted entailed")) Done log
      → HaveRead Entails query bytes
  follows log answer = by (reply_of (line (codes "accepted entailed")) log answer)
    where
      by : ((r : Reply) × IsReply query bytes r
          × (◌≡◌ {A = Answer} (Done, line (codes "accepted entailed")) (reply_answer r)))
          → HaveRead Entails query bytes
      by (r, says, is) = elim (done_by r (line (codes "accepted entailed")) is) [
        | inl (entailed, long) ↦ judged_on Entails Entailed followed r entailed says
        | inr (not_entailed, long) ↦ absurd (omega (arith, long))
      ]

  pub does_not_follow : (log : List Entry)
      → AnswersJob (check query) bytes (line (codes "accepted not entailed")) Done log
      → HaveRead (λ axioms q. Entails axioms q → ⊥) query bytes
  does_not_follow log answer = by (reply_of (line (codes "accepted not entailed")) log answer)
    where
      by : ((r : Reply) × IsReply query bytes r
          × (◌≡◌ {A = Answer} (Done, line (codes "accepted not entailed")) (reply_answer r)))
          → HaveRead (λ axioms q. Entails axioms q → ⊥) query bytes
      by (r, says, is) = elim (done_by r (line (codes "accepted not entailed")) is) [
        | inl (entailed, long) ↦ absurd (omega (arith, long))
        | inr (not_entailed, long) ↦
            judged_on (λ axioms q. Entails axioms q → ⊥) NotEntailed not_followed r not_entailed says
      ]

-- ---- audits

module _ (query bytes out : List ℕ) where
  -- an audit that is accepted lists all
  all_listed : IsJudgedOn query bytes A.Accepted → HaveAudited query bytes
  all_listed j = record {
    both = j.both;
    asked = j.asked;
    rest = j.rest;
    lists = j.audit;
    is_asked = j.is_asked;
    is_audit = j.is_audit;
    are_all = j.judged.lists_all refl;
  }

  -- only one that is accepted is done
  end_lists : (end : Result AuditVerdict Unread) → IsAuditEnd query bytes end
      → ◌≡◌ {A = Answer} (Done, out) (end_answer end) → HaveAudited query bytes
  end_lists (Ok A.Accepted) says is = all_listed says
  end_lists (Ok (A.Justification n)) says is = let clash = ap (λ (a : Answer). a.0) is in absurd (cc clash)
  end_lists (Ok (A.Repair n)) says is = let clash = ap (λ (a : Answer). a.0) is in absurd (cc clash)
  end_lists (Ok A.Transversal) says is = let clash = ap (λ (a : Answer). a.0) is in absurd (cc clash)
  end_lists (Err (U.Document e)) says is = absurd (no_complaint_is_done P.Document (complaint e) out is)
  end_lists (Err (U.Query e)) says is = absurd (no_complaint_is_done P.Query (complaint e) out is)
  end_lists (Err (U.Line n)) says is = let clash = ap (λ (a : Answer). a.0) is in absurd (cc clash)
  end_lists (Err U.NoMemory) says is = let clash = ap (λ (a : Answer). a.0) is in absurd (cc clash)

  done_lists : (log : List Entry) → AnswersJob (audit query) bytes out Done log → HaveAudited query bytes
  done_lists log (inl long) = let clash = ap (λ (a : Answer). a.0) long.answer in absurd (cc clash)
  done_lists log (inr (short, ((end, says, is), none))) = end_lists end says is

pub lists_all : AcceptedAuditsListAll
lists_all query bytes log answer = done_lists query bytes (line (codes "accepted audit")) log answer
