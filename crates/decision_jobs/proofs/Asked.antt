-- A question that is read can be asked.
use Rattle.std.proofs.Common.{ℕ, List, Result, Ok, Err}
use Rattle.std.specs.Prelude.{IfOk}
use Rattle.job_inputs.specs.Inputs.{IsInputOf}
use Rattle.job_inputs.specs.Questions.{Text}
use Rattle.job_inputs.specs.declared.asking.Input.{Input}
use Rattle.job_inputs.specs.declared.unread.Unread.{Unread}
use Rattle.job_inputs.proofs.ReadInLimit.{question_writable}
use Rattle.decision_jobs.specs.Answering.{CanBeAsked}

pub all_can_be_asked : (question : Text) (bytes : List ℕ) (r : Result Input Unread) → IfOk r (IsInputOf question bytes)
    → IfOk r CanBeAsked
all_can_be_asked question bytes (Ok i) read =
    let is = read.is_question in
    record {
      in_limit = read.in_limit;
      writable =
          question_writable bytes is.document is.kept question i.ontology i.query is.is_document
          (record { counts = is.counts; is_asked = is.is_asked; both_are = is.both_are });
    }
all_can_be_asked question bytes (Err u) read = tt
