-- What is read is not refused, and is read or refused in one way.
use Rattle.std.specs.Prelude.{◌≡◌, ℕ, List}
use Rattle.shq_terms.specs.Listed.{Listed}
use Rattle.shq_terms.specs.declared.axioms.Query.{Query as Asked}
use Rattle.text_laws.specs.Refusal.{Refusal}
use Rattle.text_laws.specs.DocumentContext.{DocumentContext}
use Rattle.job_inputs.specs.Asked.{Reply}
use Rattle.job_inputs.specs.Rest.{IsOnlyGap, IsStray}
use Rattle.job_inputs.specs.Questions.{Text, IsDocumentAlone, IsNotAlone, IsQuestion, IsRefusedQuestion}

-- whitespace and comments have no byte that is neither
abbrev pub GapsHaveNoStray : Type 0
GapsHaveNoStray = (text : List ℕ) (place : ℕ) → IsOnlyGap text → IsStray text place → ⊥

-- the first byte that is neither stands at one place
abbrev pub StraysAreUnique : Type 0
StraysAreUnique = (text : List ℕ) (place other : ℕ) → IsStray text place → IsStray text other → place ≡ other

-- ---- documents alone

-- bytes that are a document alone are not refused as one
abbrev pub DocumentsAloneAreNotRefused : Type 0
DocumentsAloneAreNotRefused = (bytes : List ℕ) (o : Listed) (kept : DocumentContext) (e : Refusal)
    → IsDocumentAlone bytes o kept → IsNotAlone bytes e → ⊥

-- bytes are refused as a document alone in one way at most
abbrev pub DocumentAloneRefusalsAreUnique : Type 0
DocumentAloneRefusalsAreUnique = (bytes : List ℕ) (e f : Refusal) → IsNotAlone bytes e → IsNotAlone bytes f → e ≡ f

-- ---- questions

-- a question on a document is read in one way at most
abbrev pub QuestionsAreUnique : Type 0
QuestionsAreUnique = (question : Text) (bytes : List ℕ) (o p : Listed) (q r : Asked) → IsQuestion question bytes o q
    → IsQuestion question bytes p r → (o ≡ p) × (q ≡ r)

-- a question that is read on a document is not refused
abbrev pub QuestionsAreNotRefused : Type 0
QuestionsAreNotRefused = (question : Text) (bytes : List ℕ) (o : Listed) (q : Asked) (r : Reply)
    → IsQuestion question bytes o q → IsRefusedQuestion question bytes r → ⊥

-- a question is refused in one way at most
abbrev pub QuestionRefusalsAreUnique : Type 0
QuestionRefusalsAreUnique = (question : Text) (bytes : List ℕ) (r s : Reply) → IsRefusedQuestion question bytes r
    → IsRefusedQuestion question bytes s → r ≡ s
