-- What is printed is accepted.
use Rattle.std.proofs.Common.{◌≡◌, ℕ, ◌+◌, ◌^◌, ◌<◌, ◌≤◌, Bool, true, false, List, Ok, length, get_or, ap, ◌∙◌, subst}
use Rattle.std.proofs.Common.{arith}
use Rattle.std.specs.List.{All}
use Rattle.std.proofs.lemmas.List.Elements.{Contains-get_or}
use Rattle.axiom_sets.specs.Sets.{Limited, IsWithin}
use Rattle.certificate_lines.specs.Lines.{lines}
use Rattle.shq_terms.specs.Listed.{Listed}
use Rattle.shq_terms.specs.declared.axioms.Query.{Query as Asked}
use Rattle.job_inputs.specs.LimitLaws.{AreWritable}
use Rattle.audit_check.specs.AuditLists.{justified_sets}
use Rattle.audit_check.specs.AuditText.{audit_in}
use Rattle.audit_check.specs.Written.{audit_text}
use Rattle.audit_check.specs.Justification.{Justification}
use Rattle.audit_check.proofs.Counted.{written_is_read}
use Rattle.audit_check.specs.Sound.{ListsAll}
use Rattle.audit_check.specs.declared.verdict.AuditVerdict.TheVariants as verdict
use Rattle.audit_check.proofs.Accepted.{one_verdict}
use Rattle.audit_check.proofs.Complete.{lists_all}
use Rattle.audit_check.proofs.Items.{from_map, all_has}
use Rattle.job_inputs.specs.declared.status.Status.TheVariants.{Done}
use Rattle.job_inputs.specs.Questions.{follows, IsQuestion, IsReadQuestion}
use Rattle.job_inputs.proofs.ReadInLimit.{question_in_limit, question_writable}
use Rattle.pinpointing_jobs.specs.Listings.{end_status}
use Rattle.audit_jobs.specs.Answers.{IsAuditText, IsEvidenceText}
use Rattle.audit_jobs.specs.Laws.{IsAcceptedText, EvidenceIsAccepted}

within_sets : (js : List Justification) → All (λ (j : Justification). IsWithin j.set.limit j.set.members) js
    → All (λ (s : Limited). IsWithin s.limit s.members) (justified_sets js)
within_sets js all k d lt =
    let of =
    from_map (λ (j : Justification). j.set) js (get_or (justified_sets js) k d)
    (Contains-get_or (justified_sets js) k d lt) in
    subst (λ (s : Limited). IsWithin s.limit s.members) of.2
    (all_has (λ (j : Justification). IsWithin j.set.limit j.set.members) js of.0 all of.1)

module _ (statement bytes out : List ℕ) (o : Listed) (q : Asked) (is : IsQuestion (follows statement) bytes o q)
    (t : IsAuditText o q out) (short : length (lines out) ≤ 4294967293) where
  asked : IsReadQuestion is.document is.kept (follows statement) o q
  asked = record { counts = is.counts; is_asked = is.is_asked; both_are = is.both_are }

  names : AreWritable o
  names = question_writable bytes is.document is.kept (follows statement) o q is.is_document asked

  few_axioms : length o.axioms + 1 < 2 ^ 32
  few_axioms =
      let few =
      (question_in_limit bytes is.document is.kept (follows statement) o q is.is_document asked).ontology.few_axioms in
      omega (arith, few)

  few_lines : length (lines (audit_text o t.audit)) < 2 ^ 32
  few_lines =
      let same : length (lines out) ≡ length (lines (audit_text o t.audit)) =
      ap (λ (bs : List ℕ). length (lines bs)) t.text in
      omega (arith, same, short)

  pub read_back : audit_in o (lines out) ≡ Ok t.audit
  read_back =
      ap (λ (bs : List ℕ). audit_in o (lines bs)) t.text
      ∙ written_is_read o t.audit names.classes names.roles names.individuals few_axioms t.of_axioms t.refutations
      t.kept few_lines

  pub all_listed : ListsAll o q t.audit
  all_listed = lists_all o q t.audit t.of_axioms (within_sets t.audit.justifications t.kept.justified) t.sound

  text_accepted : IsAcceptedText statement bytes out
  text_accepted = record {
    ontology = o;
    query = q;
    audit = t.audit;
    is_question = is;
    is_read = read_back;
    lists_all = all_listed;
    accepted = λ v says. one_verdict o q t.audit v verdict.Accepted t.kept.ordered says t.sound;
  }

pub evidence_accepted : EvidenceIsAccepted
evidence_accepted statement budget bytes out log is short =
    by is.answer.finished is.answer.written.text is.answer.written.status
  where
    by : (b : Bool) → IsEvidenceText is.ontology is.query out b → Done ≡ end_status b
        → IsAcceptedText statement bytes out
    by true t status = text_accepted statement bytes out is.ontology is.query is.is_question t short
    by false t status = absurd (cc status)
