-- A document with a question on it.
use Rattle.std.proofs.Common.{ℕ, List}
use Rattle.shq_terms.specs.Listed.{Listed}
use Rattle.text_laws.specs.DocumentContext.{DocumentContext}
use Rattle.job_inputs.specs.declared.asking.Input.{Input}
use Rattle.job_inputs.specs.declared.unread.Unread.{Unread}
use Rattle.job_inputs.specs.declared.unread.Unread.TheVariants as U
use Rattle.job_inputs.specs.Questions.{Text, document, query, IsDocumentAlone, IsReadQuestion}
use Rattle.job_inputs.specs.Questions.{IsUnreadDocument, IsUnreadQuestion}
use Rattle.job_inputs.specs.Inputs.{IsInputOf, IsNoInputOf}
use Rattle.job_inputs.proofs.ReadInLimit.{question_in_limit}

pub is_input : (question : Text) (bytes : List ℕ) (o : Listed) (kept : DocumentContext) (input : Input)
    → IsDocumentAlone bytes o kept → IsReadQuestion o kept question input.ontology input.query
    → IsInputOf question bytes input
is_input question bytes o kept input d x = record {
  is_question = record {
    document = o;
    kept = kept;
    counts = x.counts;
    is_document = d;
    is_asked = x.is_asked;
    both_are = x.both_are;
  };
  in_limit = question_in_limit bytes o kept question input.ontology input.query d x;
}

pub no_document : (question : Text) (bytes : List ℕ) (u : Unread) → IsUnreadDocument bytes u
    → IsNoInputOf question bytes u
no_document question bytes (U.Document e) why = document e why
no_document question bytes (U.Query e) why = absurd why
no_document question bytes (U.Line n) why = absurd why
no_document question bytes U.NoMemory why = tt

pub no_query : (question : Text) (bytes : List ℕ) (o : Listed) (kept : DocumentContext) (u : Unread)
    → IsDocumentAlone bytes o kept → IsUnreadQuestion o kept question u → IsNoInputOf question bytes u
no_query question bytes o kept (U.Query e) d why = query o kept e d why
no_query question bytes o kept (U.Document e) d why = absurd why
no_query question bytes o kept (U.Line n) d why = absurd why
no_query question bytes o kept U.NoMemory d why = tt
