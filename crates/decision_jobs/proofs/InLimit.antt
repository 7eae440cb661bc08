-- What is read is what the texts are, and can be judged.
use Rattle.std.proofs.Common.{◌≡◌, ℕ, List, drop, Result, Ok, Err, sym, subst}
use Rattle.std.specs.Prelude.{IfOk}
use Rattle.std.specs.Result.{result_map_both}
use Rattle.shq_terms.specs.Listed.{Listed}
use Rattle.shq_oracle.specs.Limits.{IsInLimit}
use Rattle.ofn_reader.specs.DocumentContext.{DocumentContext}
use Rattle.ofn_reader.specs.Documents.{IsDocument}
use Rattle.job_inputs.proofs.InLimit.{queries_in_limit}
use Rattle.decision_jobs.specs.Certificates.{Fits}
use Rattle.decision_jobs.specs.Checking.{input_with, IsClaim, IsInput, CanBeJudged}
use Rattle.decision_jobs.specs.declared.checking.Claim.{Claim}
use Rattle.decision_jobs.specs.declared.checking.Input.{Input}
use Rattle.job_inputs.specs.declared.unread.Unread.{Unread}

module _ (query bytes rest : List ℕ) (o : Listed) (kept : DocumentContext) (end : ℕ)
    (document : IsDocument bytes o kept end) (both : Listed) where
  claim_read : rest ≡ drop end bytes → (c : Claim) → IsClaim o kept query rest both c
      → IsInput query bytes (input_with both c)
  claim_read behind c claim = record {
    document = o;
    kept = kept;
    end = end;
    is_document = document;
    is_claim = subst (λ (l : List ℕ). IsClaim o kept query l both c) behind claim;
  }

  pub input_read : rest ≡ drop end bytes → (r : Result Claim Unread) (out : Result Input Unread)
      → out ≡ result_map_both (input_with both) (λ u. u) r → IfOk r (IsClaim o kept query rest both)
      → IfOk out (IsInput query bytes)
  input_read behind (Ok c) out is claim =
      subst (λ (i : Result Input Unread). IfOk i (IsInput query bytes)) (sym is) (claim_read behind c claim)
  input_read behind (Err u) out is claim = subst (λ (i : Result Input Unread). IfOk i (IsInput query bytes)) (sym is) tt

  claim_in_limit : (c : Claim) → IsClaim o kept query rest both c → Fits both c.certificate
      → CanBeJudged (input_with both c)
  claim_in_limit c claim fits = record {
    within =
        subst (λ (l : Listed). IsInLimit l c.asked) (sym claim.listed)
        (queries_in_limit bytes o kept end document query claim.counts c.asked claim.is_query);
    fits = fits;
  }

  pub input_in_limit : (r : Result Claim Unread) (out : Result Input Unread)
      → out ≡ result_map_both (input_with both) (λ u. u) r → IfOk r (IsClaim o kept query rest both)
      → IfOk r (λ c. Fits both c.certificate) → IfOk out CanBeJudged
  input_in_limit (Ok c) out is claim fits =
      subst (λ (i : Result Input Unread). IfOk i CanBeJudged) (sym is) (claim_in_limit c claim fits)
  input_in_limit (Err u) out is claim fits = subst (λ (i : Result Input Unread). IfOk i CanBeJudged) (sym is) tt
