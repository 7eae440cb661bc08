-- What is read of an input, and what keeps it from being judged, from its parts to the whole.
use Rattle.std.proofs.Common.{◌≡◌, ℕ, ◌≤◌, ◌-◌, ◌^◌, List, drop, length, Result, Ok, Err, sym, ◌∙◌, subst, arith}
use denote.Ref.{Bor}
use Rattle.std.specs.Prelude.{min}
use Rattle.std.proofs.Math.Nat.{min-eq_left}
use Rattle.std.proofs.lemmas.List.{length-map}
use Rattle.certificate_lines.specs.Lines.{bytes_of}
use Rattle.certificate_lines.specs.Malformed.{IsFirstMalformed}
use Rattle.std.specs.Prelude.{IfOk}
use Rattle.std.specs.Result.{result_map_both}
use Rattle.certificate_lines.specs.declared.fault.LineFault.{LineFault}
use Rattle.certificate_lines.specs.declared.fault.LineFault.TheVariants as F
use Rattle.shq_terms.specs.Listed.{Listed}
use Rattle.shq_terms.specs.declared.axioms.Query.{Query as Asked}
use Rattle.ofn_expressions.specs.Counts.{Counts}
use Rattle.ofn_reader.specs.DocumentContext.{DocumentContext}
use Rattle.ofn_reader.specs.Documents.{IsDocument}
use Rattle.job_inputs.specs.LimitLaws.{with_names}
use Rattle.job_inputs.specs.Asked.{IsAsked, IsUndocumented, IsUnasked}
use Rattle.job_inputs.specs.Unread.{line_unread}
use Rattle.job_inputs.specs.declared.unread.Unread.{Unread}
use Rattle.job_inputs.specs.declared.unread.Unread.TheVariants.{Document, Query, Line, NoMemory}
use Rattle.audit_check.specs.AuditLists.{AuditLists}
use Rattle.audit_check.specs.Malformed.{audit_of, IsFirstFault}
use Rattle.audit_check.specs.Fitting.{Fits}
use Rattle.audit_check.specs.declared.verdict.AuditVerdict.{AuditVerdict}
use Rattle.decision_jobs.specs.Certificates.{certificate_lines}
use Rattle.audit_jobs.specs.Audited.{IsJudged, IsAskedOn, IsJudgedOn, IsAuditEnd, IsUnreadBy, IsAuditClaim}
use Rattle.audit_jobs.specs.Audited.{IsUnclaimed, input_with, IsAuditInput}
use Rattle.audit_jobs.specs.declared.reading.AuditClaim.{AuditClaim}
use Rattle.audit_jobs.specs.declared.reading.AuditInput.{AuditInput}

pub mapped_ok : {T U E : Type 0} (f : T → U) (P : T → Type 0) (Q : U → Type 0) (r : Result T E) (out : Result U E)
    → out ≡ result_map_both f (λ e. e) r → ((x : T) → P x → Q (f x)) → IfOk r P → IfOk out Q
mapped_ok f P Q (Ok x) out is so p = subst (λ o. IfOk o Q) (sym is) (so x p)
mapped_ok f P Q (Err e) out is so p = subst (λ o. IfOk o Q) (sym is) tt

-- ---- the lines behind the document

-- the number of the first malformed line of so few lines is told as it is
pub line_said : (o : Listed) (lines : List (Bor (List ℕ))) (f : LineFault) (u : Unread) → u ≡ line_unread f
    → length lines ≤ 4294967294 → IsFirstFault o (bytes_of lines) f → IsUnreadBy o (bytes_of lines) u
line_said o lines (F.Malformed line) u is few why =
    let first = why.1 in
    let within = first.2.within in
    let low : min why.0 (2 ^ 32 - 1) ≡ why.0 =
    min-eq_left (omega (arith, first.1, within, few, length-map lines (λ l. l.now))) in
    subst (IsUnreadBy o (bytes_of lines)) (sym is)
    (subst (IsFirstMalformed 1 (audit_of o) (bytes_of lines)) (sym (why.2 ∙ low)) first)
line_said o lines F.NoMemory u is few why = subst (IsUnreadBy o (bytes_of lines)) (sym is) tt

pub fits_more : (o : Listed) (n : ℕ) (a : AuditLists) → n ≤ 4294967294 → Fits o n a → Fits o 4294967294 a
fits_more o n a le fits = record {
  justified = fits.justified;
  refutations =
      λ k d lt. let r = fits.refutations k d lt in record { writable = r.writable; lines = omega (arith, r.lines, le) };
  repaired = fits.repaired;
}

-- ---- why there is nothing to judge

pub undocumented : (query bytes : List ℕ) (u : Unread) → IsUndocumented bytes u → IsAuditEnd query bytes (Err u)
undocumented query bytes (Document e) why = why
undocumented query bytes (Query e) why = absurd why
undocumented query bytes (Line n) why = absurd why
undocumented query bytes NoMemory why = tt

pub unasked : (o : Listed) (kept : DocumentContext) (query rest : List ℕ) (u : Unread) → IsUnasked o kept query u
    → IsUnclaimed o kept query rest u
unasked o kept query rest (Document e) why = absurd why
unasked o kept query rest (Query e) why = why
unasked o kept query rest (Line n) why = absurd why
unasked o kept query rest NoMemory why = tt

pub unaudited : (o : Listed) (kept : DocumentContext) (query rest : List ℕ) (counts : Counts) (q : Asked)
    (both : Listed)
    → IsAsked o kept query counts q → both ≡ with_names o counts → (u : Unread)
    → IsUnreadBy both (certificate_lines rest) u
    → IsUnclaimed o kept query rest u
unaudited o kept query rest counts q both is_query names (Document e) why = absurd why
unaudited o kept query rest counts q both is_query names (Query e) why = absurd why
unaudited o kept query rest counts q both is_query names (Line n) why =
    record { counts = counts; asked = q; both = both; is_query = is_query; both_are = names; is_first = why }
unaudited o kept query rest counts q both is_query names NoMemory why = tt

module _ (query bytes : List ℕ) (o : Listed) (kept : DocumentContext) (end : ℕ)
    (is_document : IsDocument bytes o kept end) where
  asked_on : (counts : Counts) (q : Asked) (both : Listed) → IsAsked o kept query counts q → both ≡ with_names o counts
      → IsAskedOn query bytes both q (drop end bytes)
  asked_on counts q both is_query names = record {
    document = o;
    kept = kept;
    end = end;
    counts = counts;
    is_document = is_document;
    is_query = is_query;
    both_are = names;
    rest_is = λ i. drop end bytes;
  }

  pub unclaimed : (u : Unread) → IsUnclaimed o kept query (drop end bytes) u → IsAuditEnd query bytes (Err u)
  unclaimed (Document e) why = absurd why
  unclaimed (Query e) why = record { document = o; kept = kept; end = end; is_document = is_document; not_asked = why }
  unclaimed (Line n) why = record {
    both = why.both;
    asked = why.asked;
    rest = drop end bytes;
    is_asked = asked_on why.counts why.asked why.both why.is_query why.both_are;
    is_first = why.is_first;
  }
  unclaimed NoMemory why = tt

  pub claimed : (both : Listed) (c : AuditClaim) → IsAuditClaim o kept query (drop end bytes) both c
      → IsAuditInput query bytes (input_with both c)
  claimed both c claim = record {
    rest = drop end bytes;
    is_asked = asked_on claim.counts c.asked both claim.is_query claim.both_are;
    is_audit = claim.found;
  }

-- the verdict on an input that was read is one on the bytes
pub verdict_said : (query bytes : List ℕ) (x : AuditInput) (v : AuditVerdict) → IsAuditInput query bytes x
    → IsJudged x.ontology x.asked x.audit v → IsJudgedOn query bytes v
verdict_said query bytes x v is judged = record {
  both = x.ontology;
  asked = x.asked;
  rest = is.rest;
  audit = x.audit;
  is_asked = is.is_asked;
  is_audit = is.is_audit;
  judged = judged;
}
