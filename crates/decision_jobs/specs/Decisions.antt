-- What is answered to a question on an ontology.
use Rattle.std.specs.Prelude.{◌≡◌, ◌⊎◌, ℕ, false, [], ◌∷◌, ◌++◌, List, codes, Ok}
use Rattle.std.specs.List.{list_any}
use Rattle.axiom_sets.specs.Sets.{Limited}
use Rattle.shq_terms.specs.Listed.{Listed}
use Rattle.shq_terms.specs.declared.axioms.Query.{Query as Asked}
use Rattle.finite_model.specs.Written.{model_text}
use Rattle.refutation_tree.specs.Written.{refutation_text}
use Rattle.shq_oracle.specs.Entry.{Entry}
use Rattle.shq_oracle.specs.Entry.TheVariants.{Test}
use Rattle.shq_oracle.specs.TestEnd.{TestEnd}
use Rattle.shq_oracle.specs.Entries.{is_spent}
use Rattle.shq_oracle.specs.HonestLog.{IsDecisionLog}
use Rattle.shq_oracle.specs.declared.answer.Answer.{Answer as Decision}
use Rattle.shq_oracle.specs.declared.answer.Answer.TheVariants as Answered
use Rattle.shq_oracle.specs.Decided.{Matches}
use Rattle.decision_jobs.specs.Certificates.{certificate}
use Rattle.decision_jobs.specs.Checking.{IsVerdictOn}
use Rattle.job_inputs.specs.Refusals.{IsRefused, HasBegun, IsOutOfMemory}
use Rattle.decision_jobs.specs.declared.certificate.Certificate.TheVariants as C
use Rattle.job_inputs.specs.declared.verdict.Verdict.TheVariants.{Entailed, NotEntailed}
use Rattle.job_inputs.specs.Answer.{line}
use Rattle.job_inputs.specs.declared.status.Status.{Status}
use Rattle.job_inputs.specs.declared.status.Status.TheVariants.{Done, Undecided, NoMemory}
use Rattle.job_inputs.specs.Questions.{Text, has_element, follows, IsQuestion}

-- ---- texts

-- the line that says that the query of a question follows
abbrev pub entailed_line : Text → List ℕ
entailed_line (has_element class) = codes "unsatisfiable"
entailed_line (follows statement) = codes "entailed"

-- and the one that says that it does not
abbrev pub not_entailed_line : Text → List ℕ
not_entailed_line (has_element class) = codes "satisfiable"
not_entailed_line (follows statement) = codes "not entailed"

-- the verdict, and what shows it
abbrev pub decision_text : Listed → Text → Decision → List ℕ
decision_text o question (Answered.Entailed r) = line (entailed_line question) ++ refutation_text o r
decision_text o question (Answered.NotEntailed m) = line (not_entailed_line question) ++ model_text o m
decision_text o question Answered.Undecided = line (codes "undecided")

-- the status of a decision
abbrev pub decision_status : Decision → Status
decision_status (Answered.Entailed r) = Done
decision_status (Answered.NotEntailed m) = Done
decision_status Answered.Undecided = Undecided

-- ---- what is true of a decision

-- what is written is a certificate for the query that is accepted: it is read back, and shows the verdict
abbrev pub IsAccepted : Listed → Asked → List ℕ → Decision → Type 0
IsAccepted o q out (Answered.Entailed r) = (certificate o out ≡ Ok (C.Refutation r))
    × IsVerdictOn o q (C.Refutation r) Entailed
IsAccepted o q out (Answered.NotEntailed m) = (certificate o out ≡ Ok (C.Model m))
    × IsVerdictOn o q (C.Model m) NotEntailed
IsAccepted o q out Answered.Undecided = Unit {0}

-- the log of a decision: one honest test of all axioms, which ended as it was decided
pub record IsLogged (o : Listed) (q : Asked) (budget : ℕ) (d : Decision) (log : List Entry) : Type 0 where
  pub honest : IsDecisionLog o q budget log
  pub asked : Limited
  pub steps : ℕ
  pub ended : TestEnd
  pub is_log : log ≡ Test asked q steps ended ∷ []
  pub matches : Matches d ended

-- where memory was refused for the text of a decision: the test decided the query, and did not spend the budget
pub record IsDecidedLog (o : Listed) (q : Asked) (budget : ℕ) (log : List Entry) : Type 0 where
  pub honest : IsDecisionLog o q budget log
  pub unspent : list_any is_spent log ≡ false

-- ---- the answer to a question

-- the query was decided, or the budget spent
pub record IsDecisionTold (question : Text) (budget : ℕ) (bytes out : List ℕ) (s : Status) (log : List Entry) :
    Type 0 where
  pub ontology : Listed
  pub query : Asked
  pub decision : Decision
  pub is_question : IsQuestion question bytes ontology query
  pub text : out ≡ decision_text ontology question decision
  pub status : s ≡ decision_status decision
  pub accepted : IsAccepted ontology query out decision
  pub logged : IsLogged ontology query budget decision log

-- where memory was refused: nothing was asked, or one honest test of all axioms and the query, which decided it
abbrev pub BeginsQuestion : Text → ℕ → List ℕ → List Entry → Type 0
BeginsQuestion question budget bytes log = HasBegun question bytes log (λ o q. IsDecidedLog o q budget log)

-- the answer, unless memory was refused
abbrev pub AnswersQuestion : Text → ℕ → List ℕ → List ℕ → Status → List Entry → Type 0
AnswersQuestion question budget bytes out NoMemory log = IsOutOfMemory out (BeginsQuestion question budget bytes log)
AnswersQuestion question budget bytes out s log = IsRefused question bytes out s log
    ⊎ IsDecisionTold question budget bytes out s log
