-- What is read can be judged.
use Rattle.std.proofs.Common.{◌≡◌, ℕ, List, Result, Ok, Err, sym, subst}
use Rattle.std.specs.Prelude.{IfOk}
use Rattle.std.specs.Result.{result_map_both}
use Rattle.shq_terms.specs.Listed.{Listed}
use Rattle.audit_check.specs.Limits.{IsInLimit}
use Rattle.ofn_reader.specs.DocumentContext.{DocumentContext}
use Rattle.ofn_reader.specs.Documents.{IsDocument}
use Rattle.job_inputs.proofs.InLimit.{queries_in_limit}
use Rattle.job_inputs.specs.declared.unread.Unread.{Unread}
use Rattle.audit_check.specs.Fitting.{Fits}
use Rattle.audit_jobs.specs.Audited.{input_with, IsAuditClaim, CanBeJudged}
use Rattle.audit_jobs.specs.declared.reading.AuditClaim.{AuditClaim}
use Rattle.audit_jobs.specs.declared.reading.AuditInput.{AuditInput}

module _ (query bytes rest : List ℕ) (o : Listed) (kept : DocumentContext) (end : ℕ)
    (document : IsDocument bytes o kept end) (both : Listed) where
  claim_in_limit : (c : AuditClaim) → IsAuditClaim o kept query rest both c → Fits both 4294967294 c.audit
      → CanBeJudged (input_with both c)
  claim_in_limit c claim fits = record {
    within =
        subst (λ (l : Listed). IsInLimit l c.asked) (sym claim.both_are)
        (queries_in_limit bytes o kept end document query claim.counts c.asked claim.is_query);
    fits = fits;
  }

  pub input_in_limit : (r : Result AuditClaim Unread) (out : Result AuditInput Unread)
      → out ≡ result_map_both (input_with both) (λ u. u) r → IfOk r (IsAuditClaim o kept query rest both)
      → IfOk r (λ c. Fits both 4294967294 c.audit) → IfOk out CanBeJudged
  input_in_limit (Ok c) out is claim fits =
      subst (λ (i : Result AuditInput Unread). IfOk i CanBeJudged) (sym is) (claim_in_limit c claim fits)
  input_in_limit (Err u) out is claim fits = subst (λ (i : Result AuditInput Unread). IfOk i CanBeJudged) (sym is) tt
