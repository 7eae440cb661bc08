-- What is so of a document alone; what is refused before anything is asked: then the log of the questions is empty,
-- whatever its entries are; and what the log holds where memory was refused.
use Rattle.std.specs.Prelude.{◌≡◌, ℕ, [], List}
use Rattle.shq_terms.specs.Listed.{Listed}
use Rattle.shq_terms.specs.declared.axioms.Query.{Query as Asked}
use Rattle.text_laws.specs.Refusal.{Refusal}
use Rattle.text_laws.specs.DocumentContext.{DocumentContext}
use Rattle.job_inputs.specs.Answer.{no_memory, complaint_answer, IsAnswer}
use Rattle.job_inputs.specs.Asked.{Reply}
use Rattle.job_inputs.specs.Complaints.{complaint}
use Rattle.job_inputs.specs.Questions.{Text, IsQuestion, IsRefusedQuestion, IsDocumentAlone, IsNotAlone}
use Rattle.job_inputs.specs.Replies.{reply_answer}
use Rattle.job_inputs.specs.declared.complaint.Place.TheVariants.{Document}
use Rattle.job_inputs.specs.declared.status.Status.{Status}

-- the bytes are a document alone, and this is so of its ontology
pub record OnDocument (is_so : Listed → Type 0) (bytes : List ℕ) : Type 0 where
  pub ontology : Listed
  pub kept : DocumentContext
  pub is_document : IsDocumentAlone bytes ontology kept
  pub so : is_so ontology

-- the document is refused, and nothing was asked
pub record IsRefusedDocument {E : Type 0} (bytes out : List ℕ) (s : Status) (log : List E) : Type 0 where
  pub refusal : Refusal
  pub refused : IsNotAlone bytes refusal
  pub answer : IsAnswer (complaint_answer Document (complaint refusal)) out s
  pub unlogged : log ≡ []

-- the document or the question is refused, and nothing was asked
pub record IsRefused {E : Type 0} (question : Text) (bytes out : List ℕ) (s : Status) (log : List E) : Type 0 where
  pub reply : Reply
  pub refused : IsRefusedQuestion question bytes reply
  pub answer : IsAnswer (reply_answer reply) out s
  pub unlogged : log ≡ []

-- The log is empty; or the question is read, and this is so of the log of what was asked.
pub data HasBegun {E : Type 0} (question : Text) (bytes : List ℕ) (log : List E) (is_so : Listed → Asked → Type 0) :
    Type 0 where
  nothing : log ≡ [] → HasBegun question bytes log is_so
  asked : (o : Listed) (q : Asked) → IsQuestion question bytes o q → is_so o q → HasBegun question bytes log is_so

-- where memory was refused, the text says that and nothing else
pub record IsOutOfMemory (out : List ℕ) (begun : Type 0) : Type 0 where
  pub text : out ≡ no_memory
  pub log_is : begun
