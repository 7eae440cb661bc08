-- What is decided is so.
use Rattle.std.specs.Prelude.{◌≡◌, ℕ, List, map}
use Rattle.shq_terms.specs.Listed.{Listed}
use Rattle.shq_terms.specs.declared.axioms.Query.{Query as Asked}
use Rattle.shq_terms.specs.declared.axioms.Axiom.{Axiom}
use Rattle.shq_meaning.specs.Truth.{Entails}
use Rattle.finite_model.specs.ModelLists.{ModelLists}
use Rattle.refutation_tree.specs.RefutationLists.{RefutationLists}
use Rattle.shq_oracle.specs.Entry.{Entry}
use Rattle.shq_oracle.specs.declared.answer.Answer.TheVariants as Answered
use Rattle.job_inputs.specs.declared.status.Status.TheVariants.{Done}
use Rattle.job_inputs.specs.Questions.{Text, IsQuestion}
use Rattle.decision_jobs.specs.Decisions.{IsDecisionTold}

-- the answer says that the query of the question follows
pub record SaysYes (question : Text) (budget : ℕ) (bytes out : List ℕ) (log : List Entry) : Type 0 where
  pub decided : IsDecisionTold question budget bytes out Done log
  pub refutation : RefutationLists
  pub is_refuted : decided.decision ≡ Answered.Entailed refutation

-- the answer says that it does not
pub record SaysNo (question : Text) (budget : ℕ) (bytes out : List ℕ) (log : List Entry) : Type 0 where
  pub decided : IsDecisionTold question budget bytes out Done log
  pub model : ModelLists
  pub is_model : decided.decision ≡ Answered.NotEntailed model

-- the query of the question on the document that the bytes are, and what holds of its axioms and the query
pub record HaveAsked (holds : List Axiom → Asked → Type 0) (question : Text) (bytes : List ℕ) : Type 0 where
  pub ontology : Listed
  pub query : Asked
  pub is_question : IsQuestion question bytes ontology query
  pub what_holds : holds (map (λ n. n.axiom) ontology.axioms) query

-- where the answer is yes, the query follows from the axioms
abbrev pub YesFollows : Type 0
YesFollows = (question : Text) (budget : ℕ) (bytes out : List ℕ) (log : List Entry)
    → SaysYes question budget bytes out log → HaveAsked Entails question bytes

-- where the answer is no, the query does not follow from the axioms
abbrev pub NoDoesNotFollow : Type 0
NoDoesNotFollow = (question : Text) (budget : ℕ) (bytes out : List ℕ) (log : List Entry)
    → SaysNo question budget bytes out log → HaveAsked (λ axioms q. Entails axioms q → ⊥) question bytes

-- whatever the budgets
abbrev pub VerdictsExclude : Type 0
VerdictsExclude = (question : Text) (b c : ℕ) (bytes out text : List ℕ) (log more : List Entry)
    → SaysYes question b bytes out log → SaysNo question c bytes text more → ⊥
