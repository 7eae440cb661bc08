-- A document with a question on it, once both are read.
use Rattle.std.specs.Prelude.{ℕ, List}
use Rattle.text_laws.specs.Limits.{IsInLimit}
use Rattle.job_inputs.specs.Asked.{refused_document, refused_query}
use Rattle.job_inputs.specs.declared.unread.Unread.{Unread}
use Rattle.job_inputs.specs.declared.unread.Unread.TheVariants as U
use Rattle.job_inputs.specs.Questions.{Text, IsQuestion, IsRefusedQuestion}
use Rattle.job_inputs.specs.declared.asking.Input.{Input}

-- the question is this query on the document that the bytes are, within the limits
pub record IsInputOf (question : Text) (bytes : List ℕ) (input : Input) : Type 0 where
  pub is_question : IsQuestion question bytes input.ontology input.query
  pub in_limit : IsInLimit input.ontology input.query

-- why it is none: the document or the query is refused, unless memory was
abbrev pub IsNoInputOf : Text → List ℕ → Unread → Type 0
IsNoInputOf question bytes (U.Document e) = IsRefusedQuestion question bytes (refused_document e)
IsNoInputOf question bytes (U.Query e) = IsRefusedQuestion question bytes (refused_query e)
IsNoInputOf question bytes (U.Line n) = ⊥
IsNoInputOf question bytes U.NoMemory = Unit {0}
