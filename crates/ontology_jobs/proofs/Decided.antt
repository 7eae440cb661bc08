-- The words and the input decide the answer.
use Rattle.std.proofs.Common.{◌≡◌, ℕ, ◌<◌, ◌≤◌, ◌^◌, List, [], ◌⊎◌, inl, inr, length, drop, true, false, Bool, Option}
use Rattle.std.proofs.Common.{Some, None, Result, Ok, Err, refl, ap, sym, ◌∙◌, subst, arith}
use Rattle.std.specs.Prelude.{MatchOption, codes, not}
use Rattle.shq_terms.specs.Listed.{Listed}
use Rattle.shq_terms.specs.declared.axioms.Query.{Query as Asked}
use Rattle.shq_meaning.specs.Truth.{refutes_at}
use Rattle.shq_meaning.specs.Least.{IsFirstBelow}
use Rattle.shq_meaning.proofs.Below.{all_below-false}
use Rattle.finite_model.specs.ModelLists.{ModelLists as Model, meaning}
use Rattle.calculus_specs.specs.RefutationLaws.{IsJudged}
use Rattle.calculus_specs.proofs.Broken.{judged as judged_once}
use Rattle.audit_jobs.specs.RefutationLists.{RefutationLists as Refutation}
use Rattle.audit_jobs.specs.Verdicts.{named_question}
use Rattle.ofn_expressions.specs.Counts.{Counts}
use Rattle.ofn_reader.specs.DocumentContext.{DocumentContext}
use Rattle.ofn_reader.specs.Documents.{IsDocument}
use Rattle.ofn_reader.specs.Queries.{query_start}
use Rattle.ofn_reader.proofs.OneReason.{document_refusals, query_refusals}
use Rattle.ofn_reader.proofs.Unique.{documents, documents_not_refused, queries, queries_not_refused}
use Rattle.edit_session.specs.Entry.{Entry}
use Rattle.ontology_jobs.specs.Words.{check, audit, decide, classify, realize, instances, reasons, session}
use Rattle.ontology_jobs.specs.Words.{pinpoint, evidence, Request, on_input, generated, request_of}
use Rattle.audit_jobs.specs.Audited.{IsAuditEnd, end_answer}
use Rattle.audit_jobs.specs.AuditVerdict.{AuditVerdict}
use Rattle.audit_jobs.proofs.OneAnswer.{IsKnown, one_end}
use Rattle.job_inputs.specs.declared.unread.Unread.{Unread}
use Rattle.job_inputs.specs.declared.unread.Unread.TheVariants as U
use Rattle.audit_jobs.specs.Certificates.{certificate_lines}
use Rattle.audit_jobs.specs.Malformed.{certificate_read}
use Rattle.audit_jobs.proofs.FirstMalformed.{first_is_one, malformed_is_none}
use Rattle.classification_jobs.specs.LimitLaws.{with_names}
use Rattle.job_inputs.specs.Asked.{IsAsked, IsNotAsked, Reply, judged, refused_document, refused_query}
use Rattle.job_inputs.specs.Asked.{malformed_line}
use Rattle.audit_jobs.specs.Checking.{IsOfModel, IsOfRefutation, IsVerdictOn, line_of_place, Shows, IsReply}
use Rattle.audit_jobs.specs.Checking.{no_document, no_query, shown}
use Rattle.job_inputs.specs.Answer.{line, Answer}
use Rattle.job_inputs.specs.Replies.{verdict_answer, reply_answer}
use Rattle.ontology_jobs.specs.Answers.{IsTooLong, IsBadWords, AnswersJob, AnswersRequest}
use Rattle.ontology_jobs.specs.Laws.{IsFinal, AsksForNoSearch, AnswersAreUnique}
use Rattle.audit_jobs.specs.Certificate.{Certificate}
use Rattle.audit_jobs.specs.Certificate.TheVariants as C
use Rattle.job_inputs.specs.declared.verdict.Verdict.{Verdict}
use Rattle.job_inputs.specs.declared.verdict.Verdict.TheVariants.{NotEntailed, Entailed, Axiom, Query, Line}
use Rattle.job_inputs.specs.declared.status.Status.{Status}
use Rattle.job_inputs.specs.declared.status.Status.TheVariants.{Done, Rejected, BadWords, BadText, Outside, Limit}
use Rattle.job_inputs.specs.declared.status.Status.TheVariants.{ReadFault}
use Rattle.job_inputs.specs.declared.status.Status.TheVariants.{WriteFault, Undecided, NoMemory}

some_same : {A : Type 0} (a b : A) → Some a ≡ Some b → a ≡ b
some_same a b same = cc same

some_ok : (c d : Certificate) → ◌≡◌ {A = Result Certificate ℕ} (Ok c) (Ok d) → c ≡ d
some_ok c d same = cc same

-- a least element that passes, and none that passes, exclude each other
none_and_least : (m : Model) (q : Asked) (y : ℕ) → IsFirstBelow m.size (refutes_at (meaning m) q) (Some y)
    → IsFirstBelow m.size (refutes_at (meaning m) q) None → ⊥
none_and_least m q y some none =
    let p : ℕ → Bool = refutes_at (meaning m) q in
    let fails : not (p y) ≡ false = ap not some.passes in
    let clash : true ≡ false = sym none ∙ all_below-false m.size (λ z. not (p z)) y some.below fails in
    absurd (cc clash)

-- one verdict on a model excludes the others
module _ (o : Listed) (q : Asked) (m : Model) where
  same_of_model : (v w : Verdict) → IsOfModel o q m v → IsOfModel o q m w
      → ◌≡◌ {A = Answer} (verdict_answer v) (verdict_answer w)
  same_of_model NotEntailed NotEntailed a b = refl
  same_of_model NotEntailed (Axiom k) a b = let clash : None ≡ Some k = sym a.0 ∙ b in absurd (cc clash)
  same_of_model NotEntailed Query a b = absurd (none_and_least m q a.1.0 a.1.1 b.1)
  same_of_model (Axiom j) NotEntailed a b = let clash : None ≡ Some j = sym b.0 ∙ a in absurd (cc clash)
  same_of_model (Axiom j) (Axiom k) a b =
      let same : j ≡ k = some_same j k (sym a ∙ b) in ap (λ n. verdict_answer (Axiom n)) same
  same_of_model (Axiom j) Query a b = let clash : None ≡ Some j = sym b.0 ∙ a in absurd (cc clash)
  same_of_model Query NotEntailed a b = absurd (none_and_least m q b.1.0 b.1.1 a.1)
  same_of_model Query (Axiom k) a b = let clash : None ≡ Some k = sym a.0 ∙ b in absurd (cc clash)
  same_of_model Query Query a b = refl
  same_of_model NotEntailed Entailed a b = absurd b
  same_of_model NotEntailed (Line n) a b = absurd b
  same_of_model (Axiom j) Entailed a b = absurd b
  same_of_model (Axiom j) (Line n) a b = absurd b
  same_of_model Query Entailed a b = absurd b
  same_of_model Query (Line n) a b = absurd b
  same_of_model Entailed w a b = absurd a
  same_of_model (Line n) w a b = absurd a

-- and so does one on a refutation
module _ (o : Listed) (q : Asked) (r : Refutation) where
  judgement : IsJudged (named_question o q r) r.shapes r.lines
  judgement = judged_once (named_question o q r) r.shapes r.lines

  same_of_refutation : (v w : Verdict) → IsOfRefutation o q r v → IsOfRefutation o q r w
      → ◌≡◌ {A = Answer} (verdict_answer v) (verdict_answer w)
  same_of_refutation Entailed Entailed a b = refl
  same_of_refutation Entailed (Line n) a b = absurd (judgement.not_both a b.0 b.1)
  same_of_refutation (Line n) Entailed a b = absurd (judgement.not_both b a.0 a.1)
  same_of_refutation (Line n) (Line k) a b =
      let same : n ≡ k = a.2 ∙ ap (line_of_place r) (judgement.only_place a.0 b.0 a.1 b.1) ∙ sym b.2 in
      ap (λ i. verdict_answer (Line i)) same
  same_of_refutation Entailed NotEntailed a b = absurd b
  same_of_refutation Entailed (Axiom k) a b = absurd b
  same_of_refutation Entailed Query a b = absurd b
  same_of_refutation (Line n) NotEntailed a b = absurd b
  same_of_refutation (Line n) (Axiom k) a b = absurd b
  same_of_refutation (Line n) Query a b = absurd b
  same_of_refutation NotEntailed w a b = absurd a
  same_of_refutation (Axiom j) w a b = absurd a
  same_of_refutation Query w a b = absurd a

same_verdict : (o : Listed) (q : Asked) (c : Certificate) (v w : Verdict) → IsVerdictOn o q c v → IsVerdictOn o q c w
    → ◌≡◌ {A = Answer} (verdict_answer v) (verdict_answer w)
same_verdict o q (C.Model m) v w a b = same_of_model o q m v w a b
same_verdict o q (C.Refutation r) v w a b = same_of_refutation o q r v w a b

-- one text behind a document has one answer for one query
same_shows : (o : Listed) (asked : Asked) (rest : List ℕ) (r q : Reply) → Shows o asked rest r → Shows o asked rest q
    → ◌≡◌ {A = Answer} (reply_answer r) (reply_answer q)
same_shows o asked rest (judged v) (judged w) (c, found, p) (d, there, q) =
    let same : c ≡ d = some_ok c d (sym found ∙ there) in
    same_verdict o asked d v w (subst (λ k. IsVerdictOn o asked k v) same p) q
same_shows o asked rest (malformed_line j) (malformed_line k) p q =
    ap (λ i. reply_answer (malformed_line i)) (first_is_one 1 (certificate_read o) (certificate_lines rest) j k p q)
same_shows o asked rest (judged v) (malformed_line k) (c, found, p) q = absurd (malformed_is_none o rest k c q found)
same_shows o asked rest (malformed_line j) (judged w) p (d, there, q) = absurd (malformed_is_none o rest j d p there)
same_shows o asked rest (judged v) (refused_document e) p q = absurd q
same_shows o asked rest (judged v) (refused_query e) p q = absurd q
same_shows o asked rest (malformed_line j) (refused_document e) p q = absurd q
same_shows o asked rest (malformed_line j) (refused_query e) p q = absurd q
same_shows o asked rest (refused_document e) q p s = absurd p
same_shows o asked rest (refused_query e) q p s = absurd p

-- on one document a query is read or refused, and then its answer is one
module _ (query bytes : List ℕ) (o : Listed) (kept : DocumentContext) (end : ℕ) where
  same_asked : (a b : Counts) (x y : Asked) (r q : Reply) → IsAsked o kept query a x → IsAsked o kept query b y
      → Shows (with_names o a) x (drop end bytes) r
      → Shows (with_names o b) y (drop end bytes) q → ◌≡◌ {A = Answer} (reply_answer r) (reply_answer q)
  same_asked a b x y r q p s shows others =
      let same = queries kept.prefixes o.axioms (query_start o kept.nodes) query a b x y p s in
      same_shows (with_names o b) y (drop end bytes) r q
      (subst (λ z. Shows (with_names o b) z (drop end bytes) r) same.1
      (subst (λ d. Shows (with_names o d) x (drop end bytes) r) same.0 shows))
      others

-- what was read as one document was read as each other
moved : (P : Listed → DocumentContext → ℕ → Type 0) (bytes : List ℕ) (o p : Listed) (j k : DocumentContext) (d e : ℕ)
    → IsDocument bytes o j d → IsDocument bytes p k e → P o j d → P p k e
moved P bytes o p j k d e first second holds =
    let same = documents bytes o p j k d e first second in
    subst (λ i. P p k i) same.2 (subst (λ l. P p l d) same.1 (subst (λ l. P l j d) same.0 holds))

same_said : (query bytes : List ℕ) (r q : Reply) → IsReply query bytes r → IsReply query bytes q
    → ◌≡◌ {A = Answer} (reply_answer r) (reply_answer q)
same_said query bytes _ _ (no_document e why) (no_document f because) =
    ap (λ x. reply_answer (refused_document x)) (document_refusals bytes e f why because)
same_said query bytes _ _ (no_document e why) (no_query o k d f is because) =
    absurd (documents_not_refused bytes o k d e is why)
same_said query bytes _ _ (no_document e why) (shown o k d b x q is asked shows) =
    absurd (documents_not_refused bytes o k d e is why)
same_said query bytes _ _ (no_query o k d f is because) (no_document e why) =
    absurd (documents_not_refused bytes o k d e is why)
same_said query bytes _ _ (no_query o k d e is why) (no_query p j c f are because) =
    ap (λ x. reply_answer (refused_query x))
    (query_refusals j.prefixes p.axioms (query_start p j.nodes) query e f
    (moved (λ l i n. IsNotAsked l i query e) bytes o p k j d c is are why) because)
same_said query bytes _ _ (no_query o k d e is why) (shown p j c b x q are asked shows) =
    absurd (queries_not_refused j.prefixes p.axioms (query_start p j.nodes) query b x e asked
    (moved (λ l i n. IsNotAsked l i query e) bytes o p k j d c is are why))
same_said query bytes _ _ (shown o k d b x r is asked shows) (no_document e why) =
    absurd (documents_not_refused bytes o k d e is why)
same_said query bytes _ _ (shown o k d b x r is asked shows) (no_query p j c e are why) =
    absurd (queries_not_refused k.prefixes o.axioms (query_start o k.nodes) query b x e asked
    (moved (λ l i n. IsNotAsked l i query e) bytes p o j k c d are is why))
same_said query bytes _ _ (shown o k d b x r is asked shows) (shown p j c a y q are sought others) =
    let there =
    moved (λ l i n. IsAsked l i query b x × Shows (with_names l b) x (drop n bytes) r) bytes o p k j d c is are
    (asked, shows) in
    same_asked query bytes p j c b a x y r q there.0 sought there.1 others

-- the answers of a job that does not search: the input is too long, or the job says this
data Outcome (says : Answer → Type 0) (bytes : List ℕ) (a : Answer) : Type 0 where
  too_long : 2 ^ 24 < length bytes → ◌≡◌ {A = Answer} a (Limit, line (codes "limit text")) → Outcome says bytes a
  replied : length bytes ≤ 2 ^ 24 → says a → Outcome says bytes a

-- where the job says one thing, there is one answer
module _ (says : Answer → Type 0) (once : (a b : Answer) → says a → says b → ◌≡◌ {A = Answer} a b)
    (bytes out text : List ℕ) (s t : Status) where
  same_outcome : (a b : Answer) → Outcome says bytes a → Outcome says bytes b → ◌≡◌ {A = Answer} a b
  same_outcome a b (too_long long p) (too_long more q) = p ∙ sym q
  same_outcome a b (too_long long p) (replied short q) = absurd (omega arith)
  same_outcome a b (replied short p) (too_long long q) = absurd (omega arith)
  same_outcome a b (replied short p) (replied less q) = once a b p q

  same_answer : Outcome says bytes (s, out) → Outcome says bytes (t, text) → (s ≡ t) × (out ≡ text)
  same_answer p q = let same = same_outcome (s, out) (t, text) p q in ((λ i. (same i).0), (λ i. (same i).1))

-- ---- verifications

abbrev Verifies : List ℕ → List ℕ → Answer → Type 0
Verifies query bytes a = (r : Reply) × IsReply query bytes r × (◌≡◌ {A = Answer} a (reply_answer r))

verified_once : (query bytes : List ℕ) (a b : Answer) → Verifies query bytes a → Verifies query bytes b
    → ◌≡◌ {A = Answer} a b
verified_once query bytes a b (r, is, p) (s, are, q) = p ∙ same_said query bytes r s is are ∙ sym q

-- which of the two an answer is
by_length : (query bytes out : List ℕ) (s : Status) (log : List Entry)
    → (IsTooLong bytes out s log ⊎ ((length bytes ≤ 2 ^ 24) × (Verifies query bytes (s, out) × (log ≡ []))))
    → Outcome (Verifies query bytes) bytes (s, out)
by_length query bytes out s log (inl long) = too_long long.long long.answer
by_length query bytes out s log (inr (short, (says, none))) = replied short says

outcome : (query bytes out : List ℕ) (s : Status) (log : List Entry) → IsFinal s
    → AnswersJob (check query) bytes out s log → Outcome (Verifies query bytes) bytes (s, out)
outcome query bytes out Done log known answer = by_length query bytes out Done log answer
outcome query bytes out Rejected log known answer = by_length query bytes out Rejected log answer
outcome query bytes out BadWords log known answer = by_length query bytes out BadWords log answer
outcome query bytes out BadText log known answer = by_length query bytes out BadText log answer
outcome query bytes out Outside log known answer = by_length query bytes out Outside log answer
outcome query bytes out Limit log known answer = by_length query bytes out Limit log answer
outcome query bytes out ReadFault log known answer = absurd known
outcome query bytes out WriteFault log known answer = absurd known
outcome query bytes out Undecided log known answer = absurd known
outcome query bytes out NoMemory log known answer = absurd known

pub same_check : (query bytes out text : List ℕ) (s t : Status) (log more : List Entry) → IsFinal s → IsFinal t
    → AnswersJob (check query) bytes out s log → AnswersJob (check query) bytes text t more → (s ≡ t) × (out ≡ text)
same_check query bytes out text s t log more known sure p q =
    same_answer (Verifies query bytes) (verified_once query bytes) bytes out text s t
    (outcome query bytes out s log known p) (outcome query bytes text t more sure q)

-- ---- audits

abbrev Audits : List ℕ → List ℕ → Answer → Type 0
Audits query bytes a = (end : Result AuditVerdict Unread) × IsKnown end × IsAuditEnd query bytes end
    × (◌≡◌ {A = Answer} a (end_answer end))

audited_once : (query bytes : List ℕ) (a b : Answer) → Audits query bytes a → Audits query bytes b
    → ◌≡◌ {A = Answer} a b
audited_once query bytes a b (e, known, is, p) (f, sure, are, q) = p ∙ one_end query bytes e f known sure is are ∙ sym q

-- a status that does not depend on the memory is not that of out of memory
known_end : (s : Status) (out : List ℕ) → IsFinal s → (end : Result AuditVerdict Unread)
    → ◌≡◌ {A = Answer} (s, out) (end_answer end) → IsKnown end
known_end s out known (Ok v) is = tt
known_end s out known (Err (U.Document e)) is = tt
known_end s out known (Err (U.Query e)) is = tt
known_end s out known (Err (U.Line n)) is = tt
known_end s out known (Err U.NoMemory) is = subst IsFinal (ap (λ (a : Answer). a.0) is) known

audit_by_length : (query bytes out : List ℕ) (s : Status) (log : List Entry) → IsFinal s
    → (IsTooLong bytes out s log
    ⊎ ((length bytes ≤ 2 ^ 24)
    × (((end : Result AuditVerdict Unread) × IsAuditEnd query bytes end × (◌≡◌ {A = Answer} (s, out) (end_answer end)))
    × (log ≡ []))))
    → Outcome (Audits query bytes) bytes (s, out)
audit_by_length query bytes out s log known (inl long) = too_long long.long long.answer
audit_by_length query bytes out s log known (inr (short, ((end, says, is), none))) =
    replied short (end, known_end s out known end is, says, is)

audit_outcome : (query bytes out : List ℕ) (s : Status) (log : List Entry) → IsFinal s
    → AnswersJob (audit query) bytes out s log → Outcome (Audits query bytes) bytes (s, out)
audit_outcome query bytes out Done log known answer = audit_by_length query bytes out Done log known answer
audit_outcome query bytes out Rejected log known answer = audit_by_length query bytes out Rejected log known answer
audit_outcome query bytes out BadWords log known answer = audit_by_length query bytes out BadWords log known answer
audit_outcome query bytes out BadText log known answer = audit_by_length query bytes out BadText log known answer
audit_outcome query bytes out Outside log known answer = audit_by_length query bytes out Outside log known answer
audit_outcome query bytes out Limit log known answer = audit_by_length query bytes out Limit log known answer
audit_outcome query bytes out ReadFault log known answer = absurd known
audit_outcome query bytes out WriteFault log known answer = absurd known
audit_outcome query bytes out Undecided log known answer = absurd known
audit_outcome query bytes out NoMemory log known answer = absurd known

pub same_audit : (query bytes out text : List ℕ) (s t : Status) (log more : List Entry) → IsFinal s → IsFinal t
    → AnswersJob (audit query) bytes out s log → AnswersJob (audit query) bytes text t more → (s ≡ t) × (out ≡ text)
same_audit query bytes out text s t log more known sure p q =
    same_answer (Audits query bytes) (audited_once query bytes) bytes out text s t
    (audit_outcome query bytes out s log known p) (audit_outcome query bytes text t more sure q)

pub answers : AnswersAreUnique
answers words bytes out text s t log more plain known sure = by (request_of words) plain
  where
    by : (r : Option Request) → AsksForNoSearch r
        → MatchOption r (IsBadWords out s log) (λ r. AnswersRequest r bytes out s log)
        → MatchOption r (IsBadWords text t more) (λ r. AnswersRequest r bytes text t more) → (s ≡ t) × (out ≡ text)
    by None plain p q = (p.status ∙ sym q.status, p.text ∙ sym q.text)
    by (Some (on_input (check query))) plain p q = same_check query bytes out text s t log more known sure p q
    by (Some (on_input (audit query))) plain p q = same_audit query bytes out text s t log more known sure p q
    by (Some (on_input (decide question budget))) plain p q = absurd plain
    by (Some (on_input (classify budget))) plain p q = absurd plain
    by (Some (on_input (realize budget))) plain p q = absurd plain
    by (Some (on_input (instances class budget))) plain p q = absurd plain
    by (Some (on_input (reasons class budget))) plain p q = absurd plain
    by (Some (on_input (session budget))) plain p q = absurd plain
    by (Some (on_input (pinpoint wanted statement budget))) plain p q = absurd plain
    by (Some (on_input (evidence statement budget))) plain p q = absurd plain
    by (Some (generated number budget)) plain p q = absurd plain
