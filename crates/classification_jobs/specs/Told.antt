-- What is told of a classification, however it has answered.
use Rattle.std.proofs.Common.{◌≡◌, ℕ, List, [], inl, inr}
use Rattle.shq_terms.specs.Listed.{Listed}
use Rattle.classifier.specs.Entry.{Entry}
use Rattle.ofn_reader.specs.DocumentContext.{DocumentContext}
use Rattle.job_inputs.specs.Answer.{no_memory}
use Rattle.job_inputs.specs.Answered.{HasAnswered, answered, unread, out_of_memory}
use Rattle.job_inputs.specs.Questions.{IsDocumentAlone, IsUnreadDocument}
use Rattle.job_inputs.specs.Refusals.{OnDocument}
use Rattle.job_inputs.specs.declared.status.Status.{Status}
use Rattle.job_inputs.specs.declared.status.Status.TheVariants.{Done, Rejected, BadWords, BadText, Outside, Limit}
use Rattle.job_inputs.specs.declared.status.Status.TheVariants.{ReadFault, WriteFault, Undecided, NoMemory}
use Rattle.job_inputs.proofs.Ends.{document_ends, memory_ends}
use Rattle.classification_jobs.specs.Answering.{IsAnsweredOn}
use Rattle.classification_jobs.specs.Classifications.{IsClassifying, BeginsClassification, AnswersClassification}

module _ (budget : ℕ) (bytes out : List ℕ) (log : List Entry) where
  abbrev Tells : Status → Type 0
  Tells s = AnswersClassification budget bytes out s log

  memory : BeginsClassification budget bytes log → out ≡ no_memory → Tells NoMemory
  memory begun text = record { text = text; log_is = begun }

  on_document : (o : Listed) (kept : DocumentContext) (s : Status) → IsDocumentAlone bytes o kept
      → IsAnsweredOn budget o log s out → Tells s
  on_document o kept Done d so = record { ontology = o; kept = kept; is_document = d; so = so }
  on_document o kept Undecided d so = record { ontology = o; kept = kept; is_document = d; so = so }
  on_document o kept Rejected d so = absurd so
  on_document o kept BadWords d so = absurd so
  on_document o kept BadText d so = absurd so
  on_document o kept Outside d so = absurd so
  on_document o kept Limit d so = absurd so
  on_document o kept ReadFault d so = absurd so
  on_document o kept WriteFault d so = absurd so
  on_document o kept NoMemory d so = absurd so

  pub told_of : (s : Status)
      → HasAnswered (λ (i : Listed × DocumentContext). IsDocumentAlone bytes i.0 i.1) (IsUnreadDocument bytes)
      (λ (l : List Entry). l ≡ []) (λ i l s out. IsAnsweredOn budget i.0 l s out)
      (λ i l. IsClassifying budget l i.0) log out s
      → Tells s
  told_of s (answered i d so) = on_document i.0 i.1 s d so
  told_of s (unread u why none is) =
      document_ends Tells out (memory (inl none)) bytes log s u none why is (λ r. r) (λ r. r) (λ r. r)
  told_of s (out_of_memory i d begun is) =
      memory_ends Tells out
      (memory (inr (record { ontology = i.0; kept = i.1; is_document = d; so = begun }))) s is
