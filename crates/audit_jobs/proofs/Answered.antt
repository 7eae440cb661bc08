-- From what a search found to the answer.
use Rattle.std.proofs.Common.{◌≡◌, ℕ, true, List, Result, Ok, Err, inr}
use Rattle.std.specs.Prelude.{IfOk, OnOk, OnErr}
use Rattle.shq_terms.specs.Listed.{Listed}
use Rattle.shq_terms.specs.NoMemory.{NoMemory}
use Rattle.shq_terms.specs.declared.axioms.Query.{Query as Asked}
use Rattle.run_log.specs.declared.entry.Entry.{Entry}
use Rattle.audit_check.specs.AuditLists.{AuditLists}
use Rattle.audit_check.specs.Written.{audit_text, IsKeptAudit}
use Rattle.pinpointing_jobs.specs.TreeFound.{Found}
use Rattle.job_inputs.specs.declared.status.Status.{Status}
use Rattle.audit_jobs.specs.declared.evidence.Evidence.{Evidence}
use Rattle.audit_jobs.specs.declared.searching.Searched.{Searched}
use Rattle.audit_jobs.specs.Witnessed.{HasAsked, IsWitnessed, IsSearched}
use Rattle.audit_jobs.specs.Listed.{IsAuditOf}
use Rattle.audit_jobs.specs.Answers.{IsAuditText, IsWritten, IsEvidenceAnswer}
use Rattle.audit_jobs.proofs.Sound.{is_sound, of_axioms_listed, refutations_writable}

-- ---- the text of the audit

pub text_by : {T : Type 0} (o : Listed) (q : Asked) (f : Found) (e : Evidence)
    → IsWitnessed o q f e.refutations.items e.models.items → f.finished ≡ true → (a : AuditLists) → IsAuditOf f e a
    → (r : Result T NoMemory) (bytes : T → List ℕ) → IfOk r (λ t. bytes t ≡ audit_text o a) → OnOk r (IsKeptAudit o a)
    → IfOk r (λ t. IsAuditText o q (bytes t))
text_by o q f e w finished a is (Ok t) bytes text kept = record {
  audit = a;
  text = text;
  sound = is_sound o q f e w finished a is;
  of_axioms = of_axioms_listed o q f e w finished a is;
  refutations = refutations_writable o q f e w finished a is;
  kept = kept;
}
text_by o q f e w finished a is (Err x) bytes text kept = tt

-- ---- of what a call answers

module _ (o : Listed) (q : Asked) (budget : ℕ) (log : List Entry) (s : Searched)
    (is : IsSearched o q budget log s) where
  pub all_answered : {T : Type 0} (r : Result (Status × T) NoMemory) (text : T → List ℕ)
      → IfOk r (λ a. IsWritten o q s.found.finished a.0 (text a.1))
      → IfOk r (λ a. IsEvidenceAnswer o q budget log a.0 (text a.1))
  all_answered (Ok a) text w = record {
    finished = s.found.finished;
    written = w;
    honest = is.honest;
    shown = is.shown;
    spent = is.spent;
    cut_short = is.cut_short;
  }
  all_answered (Err x) text w = tt

  -- memory is refused for the text only where the search was finished
  pub all_logs : {T : Type 0} (r : Result T NoMemory) → OnErr r (s.found.finished ≡ true)
      → OnErr r (HasAsked o q budget log)
  all_logs (Ok a) finished = tt
  all_logs (Err x) finished = inr (record { honest = is.honest; unspent = is.unspent finished })
