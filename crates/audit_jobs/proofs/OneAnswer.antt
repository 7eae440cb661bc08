-- An input is judged in one way.
use Rattle.std.proofs.Common.{◌≡◌, ℕ, List, drop, Option, Some, None, Result, Ok, Err, ap, sym, ◌∙◌, subst}
use Rattle.std.specs.Result.{result_ok}
use Rattle.certificate_lines.specs.Malformed.{IsFirstMalformed}
use Rattle.shq_terms.specs.Listed.{Listed}
use Rattle.shq_terms.specs.declared.axioms.Query.{Query as Asked}
use Rattle.ofn_expressions.specs.declared.refusal.Refusal.{Refusal}
use Rattle.ofn_reader.specs.DocumentContext.{DocumentContext}
use Rattle.ofn_reader.specs.Documents.{IsDocument, IsNoDocument}
use Rattle.ofn_reader.specs.Queries.{query_start}
use Rattle.ofn_reader.proofs.OneReason.{document_refusals, query_refusals}
use Rattle.ofn_reader.proofs.Unique.{documents, documents_not_refused, queries, queries_not_refused}
use Rattle.job_inputs.specs.LimitLaws.{with_names}
use Rattle.job_inputs.specs.Answer.{Answer}
use Rattle.job_inputs.specs.Asked.{IsAsked, IsNotAsked}
use Rattle.job_inputs.specs.declared.unread.Unread.{Unread}
use Rattle.job_inputs.specs.declared.unread.Unread.TheVariants.{Document, Query, Line, NoMemory}
use Rattle.audit_check.specs.AuditLists.{AuditLists}
use Rattle.audit_check.specs.Malformed.{audit_of}
use Rattle.decision_jobs.specs.Certificates.{certificate_lines}
use Rattle.decision_jobs.proofs.FirstMalformed.{first_is_one}
use Rattle.audit_check.specs.Verdicts.{IsVerdict}
use Rattle.audit_check.specs.declared.verdict.AuditVerdict.{AuditVerdict}
use Rattle.audit_check.proofs.Accepted.{one_verdict}
use Rattle.audit_jobs.specs.Audited.{audit_after, IsAskedOn, IsJudgedOn, IsMalformedOn, IsNoQueryOn, IsAuditEnd}
use Rattle.audit_jobs.specs.Audited.{verdict_answer, end_answer}

-- a check ends with something else than that memory was refused
abbrev pub IsKnown : Result AuditVerdict Unread → Type 0
IsKnown (Ok v) = Unit {0}
IsKnown (Err (Document e)) = Unit {0}
IsKnown (Err (Query e)) = Unit {0}
IsKnown (Err (Line n)) = Unit {0}
IsKnown (Err NoMemory) = ⊥

one_audit : (a d : AuditLists) → ◌≡◌ {A = Result AuditLists ℕ} (Ok a) (Ok d) → a ≡ d
one_audit a d same = cc same

-- no text is an audit and has a malformed line
no_line : (o : Listed) (rest : List ℕ) (a : AuditLists) (n : ℕ) → audit_after o rest ≡ Ok a
    → IsFirstMalformed 1 (audit_of o) (certificate_lines rest) n → ⊥
no_line o rest a n is line =
    let clash : ◌≡◌ {A = Option AuditLists} None (Some a) = sym line.2.no_text ∙ ap result_ok is in absurd (cc clash)

module _ (query bytes : List ℕ) where
  -- the document, and what follows of one that is another
  moved : (o p : Listed) (j k : DocumentContext) (d e : ℕ) → IsDocument bytes o j d → IsDocument bytes p k e
      → (P : Listed → DocumentContext → Type 0) → P o j → P p k
  moved o p j k d e first second P holds =
      let same = documents bytes o p j k d e first second in
      subst (λ (c : DocumentContext). P p c) same.1 (subst (λ (l : Listed). P l j) same.0 holds)

  -- the texts are one document, with one query and one text behind it
  one_asked : (b c : Listed) (x y : Asked) (r s : List ℕ) → IsAskedOn query bytes b x r → IsAskedOn query bytes c y s
      → (b ≡ c) × (x ≡ y) × (r ≡ s)
  one_asked b c x y r s p q =
      let same = documents bytes p.document q.document p.kept q.kept p.end q.end p.is_document q.is_document in
      let there =
      moved p.document q.document p.kept q.kept p.end q.end p.is_document q.is_document
      (λ o k. IsAsked o k query p.counts x) p.is_query in
      let asked =
      queries q.kept.prefixes q.document.axioms (query_start q.document q.kept.nodes) query p.counts q.counts x y there
      q.is_query in (
        p.both_are ∙ (λ i. with_names (same.0 i) (asked.0 i)) ∙ sym q.both_are,
        asked.1,
        p.rest_is ∙ ap (λ n. drop n bytes) same.2 ∙ sym q.rest_is,
      )

  no_query : (b : Listed) (x : Asked) (r : List ℕ) (e : Refusal) → IsAskedOn query bytes b x r
      → IsNoQueryOn query bytes e → ⊥
  no_query b x r e p refused =
      let there =
      moved p.document refused.document p.kept refused.kept p.end refused.end p.is_document refused.is_document
      (λ o k. IsAsked o k query p.counts x) p.is_query in
      queries_not_refused refused.kept.prefixes refused.document.axioms
      (query_start refused.document refused.kept.nodes) query p.counts x e there refused.not_asked

  no_document : (b : Listed) (x : Asked) (r : List ℕ) (e : Refusal) → IsAskedOn query bytes b x r → IsNoDocument bytes e
      → ⊥
  no_document b x r e p refused = documents_not_refused bytes p.document p.kept p.end e p.is_document refused

  one_refusal : (e f : Refusal) → IsNoQueryOn query bytes e → IsNoQueryOn query bytes f → e ≡ f
  one_refusal e f p q =
      let there =
      moved p.document q.document p.kept q.kept p.end q.end p.is_document q.is_document (λ o k. IsNotAsked o k query e)
      p.not_asked in
      query_refusals q.kept.prefixes q.document.axioms (query_start q.document q.kept.nodes) query e f there q.not_asked

  -- the audit that is judged, by another reading of the same texts
  one_judgement : (v w : AuditVerdict) → IsJudgedOn query bytes v → IsJudgedOn query bytes w → v ≡ w
  one_judgement v w p q =
      let same = one_asked p.both q.both p.asked q.asked p.rest q.rest p.is_asked q.is_asked in
      let audit = one_audit p.audit q.audit (sym p.is_audit ∙ (λ i. audit_after (same.0 i) (same.2 i)) ∙ q.is_audit) in
      let there =
      subst (λ (a : AuditLists). IsVerdict q.both q.asked a v) audit
      (subst (λ (x : Asked). IsVerdict q.both x p.audit v) same.1
      (subst (λ (b : Listed). IsVerdict b p.asked p.audit v) same.0 p.judged.verdict_is)) in
      one_verdict q.both q.asked q.audit v w q.judged.ordered there q.judged.verdict_is

  judged_or_malformed : (v : AuditVerdict) (n : ℕ) → IsJudgedOn query bytes v → IsMalformedOn query bytes n → ⊥
  judged_or_malformed v n p q =
      let same = one_asked p.both q.both p.asked q.asked p.rest q.rest p.is_asked q.is_asked in
      no_line q.both q.rest p.audit n (sym (λ i. audit_after (same.0 i) (same.2 i)) ∙ p.is_audit) q.is_first

  one_malformed : (m n : ℕ) → IsMalformedOn query bytes m → IsMalformedOn query bytes n → m ≡ n
  one_malformed m n p q =
      let same = one_asked p.both q.both p.asked q.asked p.rest q.rest p.is_asked q.is_asked in
      let there =
      subst (λ (r : List ℕ). IsFirstMalformed 1 (audit_of q.both) (certificate_lines r) m) same.2
      (subst (λ (b : Listed). IsFirstMalformed 1 (audit_of b) (certificate_lines p.rest) m) same.0 p.is_first) in
      first_is_one 1 (audit_of q.both) (certificate_lines q.rest) m n there q.is_first

  -- what a check ends with has one answer
  pub one_end : (a b : Result AuditVerdict Unread) → IsKnown a → IsKnown b → IsAuditEnd query bytes a
      → IsAuditEnd query bytes b → ◌≡◌ {A = Answer} (end_answer a) (end_answer b)
  one_end (Ok v) (Ok w) known sure p q = ap verdict_answer (one_judgement v w p q)
  one_end (Ok v) (Err (Document e)) known sure p q = absurd (no_document p.both p.asked p.rest e p.is_asked q)
  one_end (Ok v) (Err (Query e)) known sure p q = absurd (no_query p.both p.asked p.rest e p.is_asked q)
  one_end (Ok v) (Err (Line n)) known sure p q = absurd (judged_or_malformed v n p q)
  one_end (Err (Document e)) (Ok w) known sure p q = absurd (no_document q.both q.asked q.rest e q.is_asked p)
  one_end (Err (Document e)) (Err (Document f)) known sure p q =
      ap (λ (x : Refusal). end_answer (Err (Document x))) (document_refusals bytes e f p q)
  one_end (Err (Document e)) (Err (Query f)) known sure p q =
      absurd (documents_not_refused bytes q.document q.kept q.end e q.is_document p)
  one_end (Err (Document e)) (Err (Line n)) known sure p q = absurd (no_document q.both q.asked q.rest e q.is_asked p)
  one_end (Err (Query e)) (Ok w) known sure p q = absurd (no_query q.both q.asked q.rest e q.is_asked p)
  one_end (Err (Query e)) (Err (Document f)) known sure p q =
      absurd (documents_not_refused bytes p.document p.kept p.end f p.is_document q)
  one_end (Err (Query e)) (Err (Query f)) known sure p q =
      ap (λ (x : Refusal). end_answer (Err (Query x))) (one_refusal e f p q)
  one_end (Err (Query e)) (Err (Line n)) known sure p q = absurd (no_query q.both q.asked q.rest e q.is_asked p)
  one_end (Err (Line m)) (Ok w) known sure p q = absurd (judged_or_malformed w m q p)
  one_end (Err (Line m)) (Err (Document e)) known sure p q = absurd (no_document p.both p.asked p.rest e p.is_asked q)
  one_end (Err (Line m)) (Err (Query e)) known sure p q = absurd (no_query p.both p.asked p.rest e p.is_asked q)
  one_end (Err (Line m)) (Err (Line n)) known sure p q =
      ap (λ (k : ℕ). end_answer (Err (Line k))) (one_malformed m n p q)
  one_end (Err NoMemory) b known sure p q = absurd known
  one_end (Ok v) (Err NoMemory) known sure p q = absurd sure
  one_end (Err (Document e)) (Err NoMemory) known sure p q = absurd sure
  one_end (Err (Query e)) (Err NoMemory) known sure p q = absurd sure
  one_end (Err (Line m)) (Err NoMemory) known sure p q = absurd sure
