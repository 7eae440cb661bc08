-- What is told of evidence, however its job has answered.
use Rattle.std.proofs.Common.{◌≡◌, ℕ, List, []}
use Rattle.run_log.specs.declared.entry.Entry.{Entry}
use Rattle.job_inputs.specs.Answered.{HasAnswered}
use Rattle.job_inputs.specs.Inputs.{IsInputOf, IsNoInputOf}
use Rattle.job_inputs.specs.Questions.{follows}
use Rattle.job_inputs.specs.declared.status.Status.{Status}
use Rattle.pinpointing_jobs.specs.QuestionTold.{question_told}
use Rattle.audit_jobs.specs.Witnessed.{IsUnspentLog, HasAsked}
use Rattle.audit_jobs.specs.Answers.{IsEvidenceAnswer, IsEvidenced, AnswersEvidence}

pub evidence_told : (statement : List ℕ) (budget : ℕ) (bytes out : List ℕ) (log : List Entry) (s : Status)
    → HasAnswered (IsInputOf (follows statement) bytes) (IsNoInputOf (follows statement) bytes)
    (λ (l : List Entry). l ≡ []) (λ i l s out. IsEvidenceAnswer i.ontology i.query budget l s out)
    (λ i l. HasAsked i.ontology i.query budget l) log out s
    → AnswersEvidence statement budget bytes out s log
evidence_told statement budget bytes out log s =
    question_told (follows statement) bytes out log (λ o q. IsUnspentLog o q budget log)
    (λ s. IsEvidenced statement budget bytes out s log)
    (λ i l s out. IsEvidenceAnswer i.ontology i.query budget l s out) (λ i l. HasAsked i.ontology i.query budget l)
    (λ i s read so. (
      so.finished,
      so.written.status,
      record {
        ontology = i.ontology;
        query = i.query;
        is_question = read.is_question;
        answer = so;
      },
    ))
    (λ i so. so) s
