-- What is answered to a query on an ontology.
use Rattle.std.specs.Prelude.{◌≡◌, ◌⊎◌, ℕ, [], List}
use Rattle.shq_terms.specs.Listed.{Listed}
use Rattle.shq_terms.specs.declared.axioms.Query.{Query as Asked}
use Rattle.shq_oracle.specs.Entry.{Entry}
use Rattle.shq_oracle.specs.declared.answer.Answer.{Answer as Decision}
use Rattle.job_inputs.specs.declared.asking.Input.{Input}
use Rattle.job_inputs.specs.declared.status.Status.{Status}
use Rattle.job_inputs.specs.Limits.{IsInLimit}
use Rattle.job_inputs.specs.LimitLaws.{AreWritable}
use Rattle.job_inputs.specs.Questions.{Text}
use Rattle.decision_jobs.specs.Decisions.{decision_text, decision_status, IsAccepted, IsLogged, IsDecidedLog}

-- the query is within the limits of the ontology, all of whose names can be written
pub record CanBeAsked (i : Input) : Type 0 where
  pub in_limit : IsInLimit i.ontology i.query
  pub writable : AreWritable i.ontology

-- the query was decided, or the budget spent, and this is the text of it, a certificate that is accepted
pub record IsDecidedBy (question : Text) (budget : ℕ) (o : Listed) (q : Asked) (log : List Entry) (s : Status)
    (out : List ℕ) : Type 0 where
  pub decision : Decision
  pub text : out ≡ decision_text o question decision
  pub status : s ≡ decision_status decision
  pub accepted : IsAccepted o q out decision
  pub logged : IsLogged o q budget decision log

-- where memory was refused: nothing was asked, or one honest test of all axioms and the query, which decided it
abbrev pub IsBegun : Listed → Asked → ℕ → List Entry → Type 0
IsBegun o q budget log = (log ≡ []) ⊎ IsDecidedLog o q budget log
